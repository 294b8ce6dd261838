pub mod Chains
pub mod Cleared
