pub mod Captured
pub mod Counts
pub mod Dealing
pub mod Finishing
pub mod Places
pub mod Shares
pub mod Complete
