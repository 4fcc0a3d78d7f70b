use Rattle.step_soundness.proofs.Owing.{effects_pass}
use Rattle.step_soundness.proofs.laws.effects_pass.Goals as goal

pub returns : goal.returns
returns c = effects_pass
