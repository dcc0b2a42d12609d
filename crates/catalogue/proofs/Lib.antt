pub mod Order
pub mod Calls
pub mod Laws
pub mod Answers
