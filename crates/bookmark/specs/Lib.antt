pub mod Bookmark
pub mod Promises
pub mod Laws
pub mod Examples
