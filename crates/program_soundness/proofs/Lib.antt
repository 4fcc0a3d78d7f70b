pub mod Statics
pub mod Extending
mod Subtypes
pub mod Initials
pub mod Declared
mod Parts
mod Walks
mod Lists
mod Origins
mod Profiles
pub mod Declaring
mod Variables
pub mod Objects
pub mod Barriers
pub mod Priorities
mod Firsts
pub mod FirstValues
pub mod Awaiting
mod Outcomes
mod Entries
pub mod Handling
mod Others
mod Nexts
mod Runs
pub mod Listing
pub mod WiderScopes
pub mod Walked
pub mod OneList
pub mod Known
pub mod Callables
pub mod BodyProfiles
pub mod Whole
pub mod Called
pub mod Agreed
pub mod Same
pub mod Formals
pub mod Beginning
pub mod FormalTrees
pub mod BodySound
pub mod PackageBodies
pub mod ObjectTrees
pub mod Trees
pub mod Moved
pub mod ObjectItems
pub mod ObjectBodies
pub mod ObjectCalls
pub mod Parted
pub mod Offering
pub mod ObjectFits
pub mod Procedures
pub mod Numbers
mod Attached
mod HandlerWorks
pub mod Assembled
mod Returned
mod Entering
pub mod OfObjects
mod Gathered
mod Starts
mod LyingRuns
mod BegunScopes
mod LyingFirsts
mod SimpleResults
mod LyingStarts
