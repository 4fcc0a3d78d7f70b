pub mod Decoding
pub mod FaultOrder
pub mod Loaded
pub mod Loading
pub mod NumberRanges
pub mod RawRows
pub mod ReadResults
pub mod Reading
