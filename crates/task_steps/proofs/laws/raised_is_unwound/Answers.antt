use Rattle.task_steps.proofs.Raises.{unwinds}
use Rattle.task_steps.proofs.laws.raised_is_unwound.Goals as goal

pub returns : goal.returns
returns c = unwinds
