pub use Rattle.stmt_rules.specs.StatementRules
pub use Rattle.conformance.specs.MatchingRules
pub mod BodyRules
pub mod ProtectedBodyRules
pub mod PackageBodyRules
pub mod UnitRules
pub mod MainRules
pub mod PackageRules
