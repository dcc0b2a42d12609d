pub mod Entries
pub mod Pushing
pub mod Pigeonhole
pub mod Chains
pub mod Standing
pub mod Costs
pub mod Keeping
pub mod Squeezing
