pub mod Reading
pub mod ExpressionReading
pub mod Levels
pub mod MoreReading
pub mod DeclarationReading
pub mod StatementReading
pub mod ProgramReading
pub mod Parsing
