pub mod Tables
pub mod Types
