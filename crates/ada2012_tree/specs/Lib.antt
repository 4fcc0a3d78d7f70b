pub mod Spans
pub mod ExpressionSpans
pub mod SubtypeSpans
pub mod DeclarationSpans
pub mod StatementSpans
pub mod ProgramSpans
