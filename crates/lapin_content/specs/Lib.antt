pub mod Contents
pub mod Marks
pub mod Channels
pub mod Codes
pub mod Readings
pub mod Follows
