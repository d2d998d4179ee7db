pub mod PlainMay
pub mod Settling
pub mod SoundLaw
pub mod Tables
