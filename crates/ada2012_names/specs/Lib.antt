pub mod Queries
pub mod Tables
