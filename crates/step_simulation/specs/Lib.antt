pub use Rattle.part_code as part_code
pub mod Standing
pub mod Laws
