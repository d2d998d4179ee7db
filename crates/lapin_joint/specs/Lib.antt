pub mod Codes
pub mod Joint
pub mod JoinedRun
pub mod Order
