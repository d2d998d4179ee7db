pub mod Own
pub mod Fewer
pub mod Pending
pub mod Modes
pub mod Selecting
pub mod Prepared
pub mod Guarded
