pub mod Output
pub mod Waiting
pub mod Promises
pub mod Examples
