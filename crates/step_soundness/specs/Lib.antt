pub use Rattle.expr_soundness.specs.meaning.specs.SourceSteps
pub use Rattle.body_restrictions as body_restrictions
pub use Rattle.expr_soundness.specs.expr_rules as expr_rules
pub use Rattle.expr_soundness as expr_soundness
pub use Rattle.expr_soundness.specs.meaning as meaning
pub use Rattle.stmt_rules as stmt_rules
pub mod Objects
pub mod Fitting
pub mod Opened
pub mod Judged
pub mod Holding
pub mod Laws
pub mod Starting
pub mod InSubtypes
