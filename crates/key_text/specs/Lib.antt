pub mod KeyText
pub mod Promises
pub mod Laws
