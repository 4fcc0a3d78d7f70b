use Rattle.kernel.proofs.Calm.{runner_is_calm}
use Rattle.kernel.proofs.laws.runner_is_calm.Goals as goal

pub returns : goal.returns
returns c = runner_is_calm
