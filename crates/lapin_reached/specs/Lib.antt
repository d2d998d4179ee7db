pub mod Reached
pub mod Limited
