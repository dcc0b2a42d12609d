pub mod Replacing
pub mod Refusals
pub mod Reaching
pub mod Resuming
pub mod Laws
