pub mod Accounts
pub mod Fates
pub mod Keepings
pub mod Returns
pub mod Runs
