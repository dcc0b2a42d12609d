pub mod Digits
pub mod Unpacking
pub mod Packing
pub mod Restoring
