pub mod Queues
pub mod Rings
