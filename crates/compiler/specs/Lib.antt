pub use Rattle.ada_tree as ada_tree
pub use Rattle.base as base
pub use Rattle.expr_code as expr_code
pub use Rattle.meaning.specs.expr_rules as expr_rules
pub use Rattle.image as image
pub use Rattle.lexer as lexer
pub use Rattle.meaning as meaning
pub use Rattle.package_code as package_code
pub use Rattle.step_simulation.specs.part_code as part_code
pub use Rattle.stmt_code as stmt_code
pub mod Compiled
pub mod Located
pub mod Stopped
