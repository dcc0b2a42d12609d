pub mod Entries
pub mod Layer
pub mod Kept
