pub mod Taking
pub mod Refused
mod KeptLines
