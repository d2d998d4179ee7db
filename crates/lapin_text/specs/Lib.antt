pub mod Frames
pub mod Calls
pub mod CallText
pub mod Events
pub mod Records
pub mod LineReading
pub mod Input
