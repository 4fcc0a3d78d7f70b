pub mod Acting
pub mod Stepping
pub mod Raised
pub mod Asked
pub mod Foreseen
pub mod Laws
