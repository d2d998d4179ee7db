pub mod Stored
pub mod Slots
pub mod Follows
pub mod Given
pub mod Room
pub mod Packed
