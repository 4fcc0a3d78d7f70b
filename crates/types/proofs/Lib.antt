mod Trees
mod Operating
mod Examples
mod BoundExamples
mod Lists
mod Adding
mod Barring
mod Counting
mod Finding
mod Fixed
pub mod Walks
mod Words
mod Apart
mod Sizes
mod Placing
pub mod Seeing
