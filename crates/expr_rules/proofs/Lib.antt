mod Least
mod Noted
mod Loops
mod Chains
mod Unbroken
mod Times
mod Sample
mod NameExamples
mod StaticExamples
pub mod TypeShapes
pub mod TypedLaw
