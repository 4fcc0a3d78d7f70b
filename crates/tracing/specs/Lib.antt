pub mod Calls
pub mod Changes
pub mod Known
pub mod Traces
pub mod Writing
pub mod Laws
