pub mod Scopes
pub mod Lines
pub mod Signals
pub mod Waves
pub mod Instants
pub mod TimeWaves
pub mod LastValues
