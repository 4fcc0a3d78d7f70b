mod ExceptionWords
pub mod AddedRows
pub mod PlacesAdded
pub mod RowsAdded
pub mod Narrowing
pub mod Laying
pub mod Entering
pub mod EnteringObjects
pub mod Beginning
pub mod Bodies
pub mod Functions
mod Parameters
mod Ranging
mod AssigningParts
mod Accepting
mod Adding
mod Opening
mod Heads
mod Repeating
pub mod Putting
mod Delaying
mod Running
mod Keeping
mod Called
pub mod Whole
pub mod GivingBack
pub mod DeclaringParameters
mod CodeOfCalls
mod Stored
mod StoredParts
mod Suiting
pub mod Declared
mod Alternatives
mod CallsAdded
mod EntryCalls
mod Bounded
mod WholeBounds
pub mod Refused
mod MovingParts
mod Labelled
mod WholePlaces
mod CallsStay
mod RaisesAdded
mod ChoiceRows
mod CoveredRows
pub mod ObjectMore
pub mod FormalNames
pub mod CoveredScopes
pub mod CallForms
mod AssignedNames
mod StaticChoices
mod StatementExamples
mod PartsAdded
mod ObjectsMade
mod AssignmentsMade
mod ChoicesMade
mod LoopsMade
mod BranchesMade
mod DeclarationsMade
mod TurnsMade
mod TimesMade
mod RowsKept
mod StatementRows
mod PartsFill
mod AlikeNeeds
mod SimpleFills
mod StatementsFill
mod AssignmentFills
mod ObjectFills
mod FirstWords
mod KeptWords
mod PartsStand
mod PartsDo
mod BranchesDo
mod HandlersDo
mod LoopsDo
mod LoopNames
mod TurnsDo
mod RangesDo
mod AcceptedParts
mod DeclarationsDo
mod CasesDo
mod SimpleDo
mod StatementsDo
mod LocalNames
mod ObjectsDo
mod AssignmentsDo
mod LinesDo
mod CallsDo
mod CallFills
mod RunMade
mod BodiesDo
mod RunJoined
mod OutsDo
mod ReturnsDo
mod WholesMade
mod JoinedParts
mod ProceduresJoined
mod FunctionsJoined
