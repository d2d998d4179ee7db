pub mod Chains
pub mod Stages
