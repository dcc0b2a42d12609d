pub mod Chain
pub mod Reaching
pub mod Choosing
pub mod Trying
