pub mod Alike
pub mod Steps
pub mod Ordered
pub mod Newest
