use Rattle.expr_soundness.proofs.Clauses.{scopes_are_sound}
use Rattle.expr_soundness.proofs.laws.scopes_are_sound.Goals as goal

pub returns : goal.returns
returns c = scopes_are_sound
