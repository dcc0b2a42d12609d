pub mod Arrangements
pub mod Examples
