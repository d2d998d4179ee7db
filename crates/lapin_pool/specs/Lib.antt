pub mod Verdicts
pub mod Cards
pub mod Turns
pub mod Ran
pub mod Seats
pub mod Pooled
pub mod Unread
pub mod Pool
