pub mod Choices
pub mod AllSchedules
pub mod Runs
pub mod Quantities
pub mod Extremes
pub mod Sets
pub mod Stepping
pub mod Text
