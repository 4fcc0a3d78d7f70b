mod CallTimes
mod Examples
mod Parts
pub mod Rows
mod Traced
mod Words
