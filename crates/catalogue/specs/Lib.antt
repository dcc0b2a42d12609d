pub mod Catalogue
pub mod Promises
pub mod Laws
