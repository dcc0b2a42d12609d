pub mod Digits
pub mod Same
pub mod Dense
pub mod Elements
pub mod Bytes
