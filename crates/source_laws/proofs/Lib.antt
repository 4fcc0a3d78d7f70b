mod SpelledTokens
mod SpelledStatements
mod SpelledPrograms
mod RowsCounted
mod CodeCounted
mod WholeItems
mod UnitClauses
mod NamesTested
mod BoundedNames
mod FullShapes
mod InsideNames
mod InsideEntities
mod VisibleWords
mod InsideLimits
mod FewCallees
mod InsideCallees
mod ObjectCallees
mod CalledBodies
mod AddedNames
mod FitScopes
mod FitNeeds
mod FitFronts
mod FitCallees
mod FitBodies
mod SmallBodies
mod LaterNames
mod LaterOperators
mod LaterExpressions
mod LaterValues
mod CoveredVariables
mod ObjectsOffer
mod CoveredFronts
mod CoveredOperations
mod WholeBodies
mod SmallFronts
mod CoveredTexts
mod PartsCounted
pub mod SubprogramsCounted
mod EvaluationsCounted
mod MeantStatements
mod MeantTexts
mod MeantBarriers
mod MeantWorlds
pub mod NamesTogether
mod SpelledNumbers
mod NumberScopes
mod StandardStatics
mod MainAspect
pub mod Peaks
pub mod PeakBounds
pub mod NeedsScopes
pub mod NeedsBounds
pub mod NeedsShapes
pub mod NeedsValues
pub mod NeedsCalls
pub mod NeedsAssignments
pub mod NeedsLocals
pub mod NeedsStatements
pub mod NeedsFormals
pub mod NeedsBodies
pub mod NeedsNames
pub mod NeedsMoves
pub mod NamedCalls
mod LabelsFit
mod WordsFit
mod CountsFit
mod PartsFit
mod OperationsFit
mod TasksFit
mod Tables
mod MainCalls
mod MainKnown
