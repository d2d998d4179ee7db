pub mod Each
pub mod Tallied
