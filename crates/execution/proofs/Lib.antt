pub mod Added
pub mod Advancing
mod Ahead
pub mod Alike
pub mod Apart
mod Begun
pub mod Encoded
mod Ending
mod Entries
mod Going
pub mod Handlers
mod Leading
mod Pushing
mod Restoring
mod RowsOf
mod ServedFrame
mod Settle
mod Settled
mod Starting
mod Tasks
