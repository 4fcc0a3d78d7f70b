mod LayoutExamples
mod LikeNameExamples
mod ProgramExamples
mod Turns
pub mod Made
mod Numbers
mod Placing
mod Room
mod OneWalk
pub mod SameFaults
