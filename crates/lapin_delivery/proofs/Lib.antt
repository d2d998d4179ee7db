pub mod Cancelling
pub mod Asking
pub mod Histories
