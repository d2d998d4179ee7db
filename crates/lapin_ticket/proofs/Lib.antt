pub mod Failing
pub mod Following
pub mod Ending
pub mod Walking
pub mod Listing
pub mod Once
pub mod Shown
pub mod Blocks
