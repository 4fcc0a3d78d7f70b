pub use Rattle.expr_rules.specs.Faults
pub use Rattle.expr_rules.specs.Typing
pub mod SubtypeNames
pub mod ObjectRules
pub mod TypeRules
pub mod ProfileRules
