pub mod Adding
pub mod Lengths
pub mod Cases
