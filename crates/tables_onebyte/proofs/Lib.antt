pub mod OneByteLaws
pub mod Rules
pub mod Laws
pub mod CodeLaws
