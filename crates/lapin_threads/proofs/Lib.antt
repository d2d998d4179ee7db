pub mod Sides
pub mod Sums
