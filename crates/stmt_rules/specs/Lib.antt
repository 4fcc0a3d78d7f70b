pub use Rattle.declaration_rules.specs.LocalRules
pub use Rattle.declaration_rules.specs.BodyNames
pub mod SimpleRules
pub mod CaseRules
pub mod HandlerRules
pub mod Choosing
pub mod StatementRules
