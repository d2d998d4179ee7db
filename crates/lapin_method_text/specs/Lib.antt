pub mod Entries
pub mod Methods
pub mod MethodReading
pub mod Slots
