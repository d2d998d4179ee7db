pub mod Confirms
pub mod Stored
