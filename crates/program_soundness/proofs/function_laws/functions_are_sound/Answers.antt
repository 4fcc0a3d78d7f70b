use Rattle.program_soundness.proofs.Gathered.{functions_sound}
use Rattle.program_soundness.proofs.function_laws.functions_are_sound.Goals as goal

pub returns : goal.returns
returns c = functions_sound c.scopes_are_sound.ensures c.names_are_known.ensures c.premises_hold.ensures
