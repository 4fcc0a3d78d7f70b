use Rattle.expr_soundness.proofs.Expressions.{expressions_are_typed}
use Rattle.expr_soundness.proofs.laws.expressions_are_typed.Goals as goal

pub returns : goal.returns
returns c = expressions_are_typed
