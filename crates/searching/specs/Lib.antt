pub mod Sights
pub mod Searches
pub mod Judging
pub mod Meeting
pub mod Encoding
pub mod Following
pub mod Passing
pub mod Reports
