use Rattle.expr_soundness.proofs.StoredParts.{stored_values_lie}
use Rattle.expr_soundness.proofs.laws.stored_values_lie.Goals as goal

pub returns : goal.returns
returns c = stored_values_lie
