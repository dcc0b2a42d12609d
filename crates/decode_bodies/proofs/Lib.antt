pub mod Room
pub mod Along
pub mod Steps
pub mod Bodies
pub mod Stops
pub mod Commands
