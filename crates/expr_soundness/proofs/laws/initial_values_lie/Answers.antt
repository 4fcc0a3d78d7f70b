use Rattle.expr_soundness.proofs.InitialValues.{initial_values_lie}
use Rattle.expr_soundness.proofs.laws.initial_values_lie.Goals as goal

pub returns : goal.returns
returns c = initial_values_lie
