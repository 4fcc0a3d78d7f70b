use Rattle.program_soundness.proofs.Assembled.{fronts_fit}
use Rattle.program_soundness.proofs.body_laws.fronts_fit.Goals as goal

pub returns : goal.returns
returns c = fronts_fit c.scopes_are_sound.ensures c.names_are_known.ensures c.premises_hold.ensures
