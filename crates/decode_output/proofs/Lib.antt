pub mod Sets
pub mod Counts
pub mod Held
pub mod Callers
