pub mod Order
pub mod Lawful
pub mod Raising
pub mod Moving
pub mod Parting
mod PartRows
mod Taking
mod Parts
mod Values
mod Building
mod Next
mod Within
mod Counting
