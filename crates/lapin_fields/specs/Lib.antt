pub mod Around
pub mod Fields
pub mod Fits
pub mod Opaque
pub mod Reading
pub mod ValueReading
pub mod Values
