pub mod Laws
pub mod Did
