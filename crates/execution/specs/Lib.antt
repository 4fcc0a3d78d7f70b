pub mod Held
pub mod Settling
pub mod Ahead
pub mod Saving
pub mod Encoding
