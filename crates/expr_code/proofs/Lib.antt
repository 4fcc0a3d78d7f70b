pub mod Coming
mod Operators
mod Expressions
pub mod Passing
pub mod CallFrames
pub mod CallRefusals
mod CodeExamples
mod CountedSteps
pub mod Calling
pub mod Naming
pub mod Locating
pub mod Paths
pub mod Growing
pub mod Flowing
pub mod Legal
mod Emitted
pub mod Names
pub mod Checking
mod Conversions
pub mod Going
pub mod Fitting
pub mod Actuals
pub mod Widths
pub mod Refusals
pub mod FitShapes
mod LegalNames
pub mod Externals
pub mod Language
pub mod PeakSlots
pub mod NamedBehind
pub mod ThroughObjects
pub mod CoveredNames
pub mod Attributes
pub mod Pieces
pub mod FormsMade
pub mod SelectorsMade
pub mod StandingPieces
pub mod ExpressionWorks
pub mod NameWorks
pub mod CallWorks
pub mod LanguageWorks
pub mod PassedWorks
pub mod PartWorks
pub mod CalledWorks
pub mod NamesWork
pub mod Appended
pub mod Emissions
