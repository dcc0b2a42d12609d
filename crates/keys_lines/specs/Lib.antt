pub mod Line
pub mod Promises
pub mod Laws
pub mod Examples
