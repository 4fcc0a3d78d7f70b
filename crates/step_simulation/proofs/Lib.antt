pub mod Going
mod Sizes
mod Catching
mod Raising
mod Sequences
mod Scenes
mod Turning
mod Choosing
mod Copying
pub mod Opening
pub mod Entering
mod Calling
mod EntryCalls
mod Returning
mod Counting
mod Blocking
mod Delaying
mod Matching
mod UnderNotes
mod Reaching
