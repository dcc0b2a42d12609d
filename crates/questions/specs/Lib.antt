pub mod Questions
pub mod Refusal
pub mod Buffer
pub mod Examples
