pub mod Stories
pub mod Measures
pub mod Runs
pub mod Tables
pub mod Text
