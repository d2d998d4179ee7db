pub mod Deeds
pub mod Publishes
pub mod Verdicts
pub mod InStep
pub mod Session
pub mod Messages
pub mod Answers
pub mod Resolved
