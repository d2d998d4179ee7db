pub mod Openings
pub mod Carried
pub mod Deliveries
