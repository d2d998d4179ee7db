pub mod Lawful
pub mod UnderLock
pub mod Known
pub mod Codes
pub mod Answered
