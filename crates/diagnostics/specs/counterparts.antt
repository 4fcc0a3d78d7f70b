pub mod Fronts
pub mod Nested
pub mod Twice
pub mod Unmatched
