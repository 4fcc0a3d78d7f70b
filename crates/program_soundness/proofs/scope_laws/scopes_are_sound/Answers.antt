use Rattle.program_soundness.proofs.Walks.{scopes_are_sound}
use Rattle.program_soundness.proofs.scope_laws.scopes_are_sound.Goals as goal

pub returns : goal.returns
returns c = scopes_are_sound
