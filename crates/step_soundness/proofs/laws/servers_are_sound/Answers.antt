use Rattle.step_soundness.proofs.Serving.{servers_are_sound}
use Rattle.step_soundness.proofs.laws.servers_are_sound.Goals as goal

pub returns : goal.returns
returns c = servers_are_sound
