pub mod Outcomes
pub mod Publishing
pub mod Reconnecting
pub mod Sending
pub mod Working
