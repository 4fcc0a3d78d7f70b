use Rattle.expr_soundness.proofs.SeenValues.{all_values_lie}
use Rattle.expr_soundness.proofs.laws.all_values_lie.Goals as goal

pub returns : goal.returns
returns c = all_values_lie c.visible_values_lie.ensures
