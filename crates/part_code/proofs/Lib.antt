pub mod Handling
pub mod Holding
pub mod OpenWays
pub mod Words
pub mod Names
pub mod OperationNames
pub mod Placing
mod Renewing
mod Variables
mod Components
pub mod StoringCode
pub mod Declaring
pub mod Arriving
pub mod Assigning
pub mod Actuals
pub mod Walking
pub mod Comparing
mod PartWords
mod Targeting
pub mod Deciding
pub mod FormalFlows
pub mod FormalWords
mod PartValues
pub mod StoringParts
pub mod Pointing
pub mod CopyingBack
pub mod Loading
mod PassingTargets
pub mod PassingWell
pub mod Initials
pub mod Selecting
mod InTurn
pub mod FormalsRefused
mod Moves
mod CodeExamples
pub mod PieceNeeds
pub mod MovesMade
pub mod MoveWorks
pub mod FittingWorks
pub mod LegalTargets
pub mod TargetWorks
pub mod ActualsMade
pub mod ActualsWork
pub mod RangeWorks
pub mod CopiesMade
pub mod CopiesWork
pub mod AssignmentsRefused
pub mod MovesRefused
pub mod CallsShallow
pub mod Jumping
pub mod Jumps
pub mod Lists
pub mod FullWords
pub mod ObjectNames
pub mod StoresAt
pub mod Within
pub mod WrittenActuals
mod WrittenLines
pub mod CoveredObjects
pub mod TurnNumbers
