pub use Rattle.handlers as handlers
pub use Rattle.kernel as kernel
pub mod Laws
pub mod Linked
pub mod Room
pub mod Shape
pub mod Whole
pub mod Width
pub mod Within
