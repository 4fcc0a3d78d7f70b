pub use Rattle.expr_rules.specs.Faults
pub mod MatchingRules
pub mod Tables
