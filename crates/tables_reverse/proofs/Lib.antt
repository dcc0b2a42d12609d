pub mod PlaceLaws
pub mod RowLaws
pub mod PassedLaws
pub mod SymbolLaws
pub mod Laws
