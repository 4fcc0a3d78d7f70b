use Rattle.kernel.proofs.Calm.{somebody_runs}
use Rattle.kernel.proofs.laws.somebody_runs.Goals as goal

pub returns : goal.returns
returns c = somebody_runs
