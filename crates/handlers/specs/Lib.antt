pub mod Counts
pub mod Handlers
pub mod Holding
pub mod Innermost
pub mod Laws
pub mod Nesting
pub mod Searching
pub mod Sweeping
