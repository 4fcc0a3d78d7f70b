use Rattle.step_soundness.proofs.Serving.{others_stay_sound}
use Rattle.step_soundness.proofs.laws.others_stay_sound.Goals as goal

pub returns : goal.returns
returns c = others_stay_sound
