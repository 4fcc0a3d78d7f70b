pub mod Cells
pub mod Signs
pub mod Scales
pub mod Runs
pub mod Tables
pub mod Text
