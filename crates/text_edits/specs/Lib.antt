pub mod Edits
pub mod Places
