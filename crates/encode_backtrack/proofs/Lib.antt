pub mod Character
pub mod Stores
pub mod Nodes
pub mod Trail
