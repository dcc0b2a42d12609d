pub mod Bodies
pub mod Examples
pub mod Positions
pub mod Reading
