pub mod Choosing
pub mod Rows
pub mod Shapes
mod Untold
pub mod Firsts
pub mod Joined
pub mod Lines
pub mod Unexpected
pub mod Pieces
pub mod Named
