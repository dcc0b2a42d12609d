pub mod Stores
pub mod Putting
pub mod Parts
