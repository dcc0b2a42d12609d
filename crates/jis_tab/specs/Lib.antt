pub mod CellTable
pub mod Promises
