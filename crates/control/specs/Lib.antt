pub mod Codes
pub mod Controls
