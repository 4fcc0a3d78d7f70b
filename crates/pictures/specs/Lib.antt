pub mod Inks
pub mod Shapes
pub mod Frames
pub mod Text
pub mod Front
pub mod Pictures
pub mod Drawn
