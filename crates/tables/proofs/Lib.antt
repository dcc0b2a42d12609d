pub mod CellLaws
pub mod KanjiLaws
pub mod MarkLaws
pub mod Cases
pub mod Laws
pub mod ScalarLaws
