use Rattle.expr_soundness.proofs.Worth.{expressions_lie}
use Rattle.expr_soundness.proofs.laws.expressions_lie.Goals as goal

pub returns : goal.returns
returns c = expressions_lie c.static_is_value.ensures
