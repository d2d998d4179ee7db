pub mod Entries
pub mod MethodLaws
