pub mod Queueing
pub mod Waiting
pub mod Dropped
pub mod Ends
pub mod Cancels
pub mod Channels
