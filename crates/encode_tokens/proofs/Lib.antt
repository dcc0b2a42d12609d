pub mod Codes
pub mod Texts
pub mod Pass
pub mod Answers
pub mod Held
