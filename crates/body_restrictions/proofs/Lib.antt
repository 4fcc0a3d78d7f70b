mod BodyExamples
mod Parts
pub mod Sample
