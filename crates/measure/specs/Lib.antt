pub mod Measure
pub mod Promises
pub mod Laws
pub mod Examples
