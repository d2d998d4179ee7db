pub mod Phases
pub mod Happens
pub mod Comes
pub mod Events
