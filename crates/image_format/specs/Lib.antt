pub use Rattle.base as base
pub mod Bytes
pub mod Listing
