pub mod Jobs
pub mod Decided
pub mod Worked
pub mod Ran
