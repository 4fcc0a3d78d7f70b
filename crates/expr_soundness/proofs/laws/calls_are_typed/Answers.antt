use Rattle.expr_soundness.proofs.Calls.{calls_are_typed}
use Rattle.expr_soundness.proofs.laws.calls_are_typed.Goals as goal

pub returns : goal.returns
returns c = calls_are_typed
