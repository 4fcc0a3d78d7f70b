pub mod Capped
pub mod Turns
mod Examples
