pub mod PlainStatements
pub mod CompoundStatements
pub mod Statements
pub mod Selected
pub mod DeepStatements
pub mod GoingStatements
