use Rattle.step_soundness.proofs.Stepping.{steps_are_sound}
use Rattle.step_soundness.proofs.laws.steps_are_sound.Goals as goal

pub returns : goal.returns
returns c = steps_are_sound
