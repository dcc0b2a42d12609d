pub mod Clean
pub mod Promises
pub mod Laws
pub mod Examples
