pub mod Generated
pub mod Summed
pub mod Tally
