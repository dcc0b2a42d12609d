pub mod Table719
pub mod Symbols
