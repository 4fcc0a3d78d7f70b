pub use Rattle.meaning.specs.types.specs.Evaluating
pub use Rattle.meaning.specs.expr_rules.specs.ExpressionRules
pub use Rattle.meaning.specs.ada_tree as ada_tree
pub use Rattle.meaning.specs.base as base
pub use Rattle.meaning.specs.declaration_rules as declaration_rules
pub use Rattle.meaning.specs.expr_rules as expr_rules
pub use Rattle.meaning.specs.handlers as handlers
pub use Rattle.meaning.specs.kernel as kernel
pub use Rattle.meaning as meaning
pub use Rattle.meaning.specs.type_rules as type_rules
pub use Rattle.meaning.specs.types as types
pub mod SoundScopes
pub mod Agreeing
pub mod Answers
pub mod Laws
pub mod Variables
pub mod Lying
pub mod BoundsLaw
pub mod InitialLaw
pub mod StoringLaw
pub mod CompositesLaw
