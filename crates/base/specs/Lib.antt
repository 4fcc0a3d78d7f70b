pub mod Exceptions
pub mod Arithmetic
pub mod Schedule
pub mod Laws
pub mod Names
pub mod First
pub mod FirstLaws
