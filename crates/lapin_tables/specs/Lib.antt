pub mod Behind
pub mod ByChannel
pub mod Index
pub mod Lends
pub mod Numbered
pub mod Packed
