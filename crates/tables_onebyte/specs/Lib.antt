pub mod OneByte
pub mod Reverse
pub mod Promises
