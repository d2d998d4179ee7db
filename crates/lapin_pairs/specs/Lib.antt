pub mod Machine
pub mod Channel
pub mod Tags
pub mod Every
pub mod Asking
pub mod Tagging
