use Rattle.program_soundness.proofs.Known.{names_known}
use Rattle.program_soundness.proofs.body_laws.names_are_known.Goals as goal

pub returns : goal.returns
returns c = names_known c.declarations_are_sound.ensures c.scopes_are_sound.ensures
