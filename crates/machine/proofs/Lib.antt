mod Bounding
mod Exclusion
mod Inside
mod Pieces
pub mod Runs
mod Stepping
pub mod Taken
