pub mod TableOfTwelve
pub mod Coding
