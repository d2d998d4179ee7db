pub mod Rooms
pub mod Queued
pub mod Live
pub mod Ended
