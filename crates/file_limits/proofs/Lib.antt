pub mod Choices
pub mod Images
pub mod Numbers
pub mod Schedules
pub mod Sources
