use Rattle.expr_soundness.proofs.Worth.{values_are_bounded}
use Rattle.expr_soundness.proofs.laws.values_are_bounded.Goals as goal

pub returns : goal.returns
returns c = values_are_bounded c.static_is_value.ensures c.calls_are_typed.ensures
