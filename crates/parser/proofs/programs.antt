pub mod Types
pub mod Items
pub mod Bodies
pub mod Programs
pub mod DeepPrograms
pub mod GoingPrograms
pub mod Whole
