pub mod Defining
pub mod Fine
pub mod Controls
pub mod Steps
pub mod Until
pub mod Between
