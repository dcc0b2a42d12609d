pub mod Calls
pub mod Laws
pub mod ByText
pub mod OneKey
pub mod Ordinary
