pub mod Words
pub mod Finding
