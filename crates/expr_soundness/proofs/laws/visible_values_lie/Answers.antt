use Rattle.expr_soundness.proofs.SeenValues.{visible_values_lie}
use Rattle.expr_soundness.proofs.laws.visible_values_lie.Goals as goal

pub returns : goal.returns
returns c = visible_values_lie c.language_lies.ensures
