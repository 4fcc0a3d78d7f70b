pub use Rattle.legality.specs.ProgramRules
pub use Rattle.expr_soundness.specs.SoundScopes
pub use Rattle.step_soundness.specs.Starting
pub use Rattle.expr_soundness.specs.Answers
pub use Rattle.legality as legality
pub use Rattle.declaration_rules as declaration_rules
pub use Rattle.unit_rules as unit_rules
pub use Rattle.ravenscar as ravenscar
pub use Rattle.size_rules as size_rules
pub use Rattle.step_soundness as step_soundness
pub use Rattle.step_soundness.specs.stmt_rules as stmt_rules
pub mod Points
pub mod ScopeLaws
pub mod SoundWorlds
pub mod RunLaws
pub mod Fronts
pub mod BodyLaws
pub mod FunctionLaws
pub mod ProgramLaws
pub mod LyingWorlds
