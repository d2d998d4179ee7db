pub mod Scalars
pub mod Reading
pub mod Numerals
pub mod Digits
