pub mod Exact
pub mod Several
pub mod MoreExact
pub mod Loops
pub mod Lists
pub mod Deep
pub mod Going
pub mod Heads
