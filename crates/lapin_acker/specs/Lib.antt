pub mod Marks
pub mod Switches
pub mod Readings
pub mod Verdicts
pub mod Blocks
pub mod Store
