pub mod Findings
pub mod Seen
