pub mod Counts
pub mod Following
pub mod Pointing
pub mod Places
pub mod Numbering
pub mod Keeping
pub mod Filling
