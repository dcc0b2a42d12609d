pub mod Widths
pub mod Characters
pub mod Moving
pub mod Laws
