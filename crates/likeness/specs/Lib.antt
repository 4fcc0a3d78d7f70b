pub use Rattle.image_laws as image_laws
pub mod Schedules
pub mod Worlds
