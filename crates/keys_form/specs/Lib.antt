pub mod Line
pub mod Promises
