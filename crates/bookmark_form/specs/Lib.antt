pub mod Numbers
pub mod Form
