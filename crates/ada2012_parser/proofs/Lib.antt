pub mod Between
pub mod Places
pub mod Readings
pub mod Wholes
