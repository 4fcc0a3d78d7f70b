pub use Rattle.expr_rules.specs.Faults
pub use Rattle.types.specs.Layouts
pub mod LikeNames
pub mod OpenParts
pub mod ProgramLayouts
pub mod ProgramRules
pub mod FoundFaults
pub mod Placing
