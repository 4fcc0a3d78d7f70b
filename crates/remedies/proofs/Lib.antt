mod Searching
pub mod Fitting
mod Kept
pub mod Ordered
