pub use Rattle.unit_rules.specs.PackageRules
pub use Rattle.unit_rules.specs.PackageBodyRules
pub mod Limits
pub mod BodySizes
pub mod PackageSizes
pub mod ProgramSizes
pub mod Laws
