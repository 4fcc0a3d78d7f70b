pub use Rattle.expr_rules.specs.Faults
pub mod HandlerRules
pub mod PragmaRules
pub mod TaskingRules
pub mod ProgramRules
pub mod BrokenRules
