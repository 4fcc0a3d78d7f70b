mod Choices
mod Chosen
mod Compound
mod CompoundExamples
mod Sample
mod SimpleExamples
mod Turns
