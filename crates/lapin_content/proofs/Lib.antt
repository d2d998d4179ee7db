pub mod Fitting
pub mod Following
pub mod Messages
pub mod Tables
