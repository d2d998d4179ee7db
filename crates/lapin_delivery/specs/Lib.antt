pub mod Marks
pub mod Deliveries
pub mod WithRoom
