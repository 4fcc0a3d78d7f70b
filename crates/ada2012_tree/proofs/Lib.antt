pub mod Rows
pub mod StatementRows
mod Examples
