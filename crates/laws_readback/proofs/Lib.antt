pub mod States
pub mod Controls
pub mod Halves
pub mod Codes
pub mod Characters
pub mod Order
pub mod ReadBack
pub mod Accepted
