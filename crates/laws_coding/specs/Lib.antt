pub mod Coding
