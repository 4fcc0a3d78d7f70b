use Rattle.expr_soundness.proofs.Stored.{targets_are_variables}
use Rattle.expr_soundness.proofs.laws.targets_are_variables.Goals as goal

pub returns : goal.returns
returns c = targets_are_variables
