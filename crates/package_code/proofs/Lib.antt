pub mod InFront
mod FirstWords
pub mod InOrder
pub mod NewParameters
pub mod BodyFronts
mod PackageFronts
pub mod ObjectNumbers
pub mod Offered
pub mod BareOperations
pub mod OperationBodies
pub mod ObjectFronts
mod HeldParameters
mod Entered
mod Ordered
mod Reordered
mod Building
mod BodyFrames
mod MadeFrames
mod CodedBodies
pub mod CodedPackage
pub mod EntryRows
pub mod Barred
mod LinkedMain
pub mod Coded
pub mod TaskNames
pub mod TaskRows
pub mod TasksAdded
pub mod ObjectRows
mod OperationEntries
mod EntrySearch
mod EmittedTasks
mod EmittedFormals
mod EmittedParts
mod EmittedFrames
mod EmittedBodies
mod EmittedFunctions
mod EmittedMain
pub mod Variables
mod InitialWords
pub mod Declared
pub mod Told
pub mod Walked
mod BodyRows
pub mod Adding
pub mod OperationsAdded
pub mod ChannelHandlers
pub mod HandlerSearch
pub mod HandlerBodies
pub mod Linking
pub mod HandlerRows
pub mod ProgramPlaces
pub mod Counted
pub mod Seen
pub mod ItemsTold
pub mod AsTold
mod RowsGrow
pub mod Stops
pub mod ToldInside
pub mod ObjectNames
pub mod SeenInside
mod WalkedInside
pub mod ComponentSlots
pub mod Numbered
pub mod Placed
mod NamedExceptions
mod GlobalsRefused
pub mod Differing
mod BodyRefused
mod MarkedFunctions
