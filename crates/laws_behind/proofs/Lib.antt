pub mod Written
pub mod Steps
pub mod Behind
