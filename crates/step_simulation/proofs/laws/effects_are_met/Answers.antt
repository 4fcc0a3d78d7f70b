use Rattle.step_simulation.proofs.Reaching.{effects_are_met}
use Rattle.step_simulation.proofs.laws.effects_are_met.Goals as goal

pub returns : goal.returns
returns c = effects_are_met
