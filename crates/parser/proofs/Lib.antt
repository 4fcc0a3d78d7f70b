pub mod general
pub mod expressions
pub mod declarations
pub mod statements
pub mod programs
