pub mod Bounds
pub mod Exclusion
pub mod Memory
pub mod Outcomes
pub mod Stands
pub mod Taken
pub mod TaskStates
pub mod Written
