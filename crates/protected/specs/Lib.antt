pub mod Actions
pub mod Kept
