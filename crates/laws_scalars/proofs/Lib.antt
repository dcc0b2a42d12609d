pub mod Characters
pub mod Written
pub mod Steps
pub mod Scalars
