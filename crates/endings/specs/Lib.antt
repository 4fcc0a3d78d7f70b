pub mod LastSteps
pub mod Sources
