pub mod Looking
pub mod Moves
