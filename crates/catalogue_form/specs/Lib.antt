pub mod Form
pub mod Entries
pub mod Promises
pub mod Examples
