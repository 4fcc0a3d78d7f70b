pub mod Reading
pub mod Parsing
