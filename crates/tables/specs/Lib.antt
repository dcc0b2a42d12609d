pub mod Kanji
pub mod Marks
pub mod Laws
