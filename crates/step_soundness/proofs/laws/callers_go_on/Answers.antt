use Rattle.step_soundness.proofs.Serving.{callers_go_on}
use Rattle.step_soundness.proofs.laws.callers_go_on.Goals as goal

pub returns : goal.returns
returns c = callers_go_on
