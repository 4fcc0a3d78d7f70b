use Rattle.expr_soundness.proofs.Composites.{composites_lie}
use Rattle.expr_soundness.proofs.laws.composites_lie.Goals as goal

pub returns : goal.returns
returns c = composites_lie c.calls_are_typed.ensures
