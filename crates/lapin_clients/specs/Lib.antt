pub mod Pieces
pub mod Strays
pub mod Calls
pub mod Nets
pub mod Joined
pub mod Truth
pub mod Openings
