pub mod Moving
pub mod Branches
pub mod Stops
pub mod Stretches
pub mod Way
pub mod Dispatch
