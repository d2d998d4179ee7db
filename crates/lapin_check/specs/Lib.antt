pub mod Account
pub mod Finding
pub mod Marks
pub mod Openings
pub mod Pointing
pub mod Rules
pub mod Settlements
