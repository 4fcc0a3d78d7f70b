use Rattle.step_soundness.proofs.Alike.{stores_are_alike}
use Rattle.step_soundness.proofs.laws.stores_are_alike.Goals as goal

pub returns : goal.returns
returns c = stores_are_alike
