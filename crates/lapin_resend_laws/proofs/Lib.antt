pub mod Marks
pub mod Ready
pub mod Runs
pub mod Stored
pub mod Truth
