mod Noted
mod Times
mod Calls
mod Chains
mod Compound
mod Objects
mod Broken
mod BrokenStatics
mod BrokenStatements
mod BrokenBodies
pub mod Listing
