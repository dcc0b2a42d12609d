pub mod Moved
pub mod Bounds
