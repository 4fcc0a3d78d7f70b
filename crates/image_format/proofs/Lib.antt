mod BytesExamples
pub mod Channels
pub mod Images
mod Listed
mod ListingExamples
pub mod Written
