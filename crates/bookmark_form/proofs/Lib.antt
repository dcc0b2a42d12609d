pub mod Below
pub mod Resumes
pub mod Places
pub mod Passing
