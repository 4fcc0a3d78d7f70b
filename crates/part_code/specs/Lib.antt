pub use Rattle.ada_tree as ada_tree
pub use Rattle.base as base
pub use Rattle.expr_code as expr_code
pub use Rattle.handlers as handlers
pub use Rattle.image as image
pub use Rattle.step_soundness as step_soundness
pub use Rattle.step_soundness.specs.stmt_rules as stmt_rules
pub use Rattle.types as types
pub mod Resting
pub mod Handling
pub mod Jumping
pub mod Storing
pub mod Layout
pub mod Parts
pub mod Copying
pub mod Counting
pub mod Statements
pub mod Lines
pub mod Raising
pub mod EntryNames
pub mod Suiting
pub mod Bounds
pub mod Emitting
pub mod Passing
pub mod Moving
pub mod PartCode
pub mod ObjectCode
pub mod Formals
pub mod Turns
pub mod Labels
pub mod Rows
pub mod ChoiceRows
pub mod Choices
pub mod MainCalls
pub mod Providing
pub mod Needs
