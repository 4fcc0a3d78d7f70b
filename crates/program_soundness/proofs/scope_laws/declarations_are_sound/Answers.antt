use Rattle.program_soundness.proofs.Walks.{declarations_are_sound}
use Rattle.program_soundness.proofs.scope_laws.declarations_are_sound.Goals as goal

pub returns : goal.returns
returns c = declarations_are_sound
