pub mod Texts
pub mod Schedules
pub mod Capped
pub mod Sleepers
pub mod Numbering
pub mod Heaps
pub mod ChannelValues
