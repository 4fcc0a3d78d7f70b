use Rattle.step_simulation.proofs.Matching.{steps_are_met}
use Rattle.step_simulation.proofs.laws.steps_are_met.Goals as goal

pub returns : goal.returns
returns c = steps_are_met c.quiet_stays.ensures c.steps_are_sound.ensures
