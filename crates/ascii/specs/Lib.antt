pub mod Ascii
pub mod Promises
pub mod Examples
