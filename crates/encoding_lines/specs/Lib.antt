pub mod Lines
pub mod Laws
pub mod Examples
