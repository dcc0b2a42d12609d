pub mod FourBytes
pub mod Zeros
pub mod Places
pub mod Records
pub mod Forms
