pub mod Following
pub mod Notes
