pub mod Behind
pub mod Held
pub mod Openings
pub mod Sound
