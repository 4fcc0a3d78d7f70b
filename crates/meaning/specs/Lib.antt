pub use Rattle.ada_tree as ada_tree
pub use Rattle.base as base
pub use Rattle.declaration_rules as declaration_rules
pub use Rattle.expr_rules as expr_rules
pub use Rattle.handlers as handlers
pub use Rattle.kernel as kernel
pub use Rattle.type_rules as type_rules
pub use Rattle.types as types
pub mod Same
pub mod Following
pub mod Meeting
pub mod MeetingLaws
pub mod Lifting
pub mod Programs
pub mod Works
pub mod Targets
pub mod Calls
pub mod Starts
pub mod SourceSteps
pub mod Source
pub mod SameMeaning
pub mod Laws
pub mod Compiling
pub mod NullExample
