pub mod Keys
pub mod Bodies
pub mod Stores
