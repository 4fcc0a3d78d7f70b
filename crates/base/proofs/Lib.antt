pub mod Division
pub mod Examples
