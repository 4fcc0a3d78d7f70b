use Rattle.program_soundness.proofs.Assembled.{handlers_are_sound}
use Rattle.program_soundness.proofs.body_laws.handlers_are_sound.Goals as goal

pub returns : goal.returns
returns c = handlers_are_sound c.scopes_are_sound.ensures c.names_are_known.ensures c.premises_hold.ensures
