pub mod Complete
pub mod Leaving
