pub mod Pieces
pub mod Constructs
pub mod Spacing
pub mod Layout
pub mod Laws
