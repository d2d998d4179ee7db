pub mod Format
pub mod Outcome
