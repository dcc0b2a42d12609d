pub mod Bytes
pub mod Reading
pub mod Texts
pub mod Places
