pub mod Positions
pub mod Parts
pub mod Goods
pub mod Growing
pub mod Hiding
pub mod Agreement
pub mod FixedNames
pub mod Elements
pub mod Denoting
pub mod Applying
pub mod Arguments
pub mod Expressions
mod Calls
mod Storing
mod Targeting
mod Stored
pub mod Standard
pub mod Widening
pub mod Clauses
mod LoopExample
pub mod Numbers
pub mod Lies
mod LanguageValues
pub mod SeenValues
mod InitialValues
mod StoredParts
mod NamesLie
mod Between
mod Worth
mod Composites
mod LyingExamples
