pub mod Onward
pub mod Late
pub mod Pending
pub mod Unread
pub mod Inputs
pub mod Futures
pub mod Determined
pub mod Meeting
