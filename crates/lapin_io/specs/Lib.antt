pub mod Calls
pub mod Memory
pub mod Numbers
pub mod Standard
