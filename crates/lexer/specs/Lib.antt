pub mod Fault
pub mod Limits
pub mod Characters
pub mod Words
pub mod Delimiters
pub mod Elements
pub mod Spelling
pub mod Reading
