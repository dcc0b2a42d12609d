pub mod Parts
pub mod Reading
pub mod Advancing
pub mod Matching
pub mod Squeezing
pub mod Running
