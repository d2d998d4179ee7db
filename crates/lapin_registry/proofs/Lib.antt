pub mod Edits
pub mod Histories
pub mod Named
pub mod Names
pub mod Openings
pub mod Others
pub mod Rising
