mod Raising
mod Reaching
pub mod Lookups
pub mod Sights
mod Aiming
pub mod Going
mod Walking
mod Valued
mod Storing
pub mod Turning
mod Stating
mod Ending
mod Passing
pub mod Naming
pub mod Calling
mod Callees
pub mod Elaborating
mod Stepping
mod Serving
mod Alike
mod Owing
pub mod LyingLists
mod LyingPlaces
pub mod LyingSteps
