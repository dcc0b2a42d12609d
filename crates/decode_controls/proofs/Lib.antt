pub mod Effects
pub mod Cases
pub mod Escapes
pub mod Bytes
