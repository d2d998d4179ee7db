pub mod Format
pub mod LineLaws
pub mod Outcome
pub mod Printing
pub mod Reading
pub mod Status
pub mod Writing
