pub use Rattle.protected as protected
pub mod Held
pub mod Laws
pub mod Orderly
pub mod Waits
