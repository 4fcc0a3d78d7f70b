mod Calls
pub mod Sample
mod ObjectExamples
mod TypeExamples
