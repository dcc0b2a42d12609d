pub mod CellTable
pub mod Refusals
pub mod Buffers
