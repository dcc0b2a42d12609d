pub mod Lift
pub mod Steps
pub mod Begun
