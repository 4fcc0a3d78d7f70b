pub mod Parts
pub mod Shown
