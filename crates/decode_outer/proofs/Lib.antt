pub mod Defining
pub mod Start
