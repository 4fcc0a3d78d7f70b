use Rattle.source_laws.proofs.InsideCallees.{callees_have_few}
use Rattle.source_laws.proofs.laws.callees_have_few.Goals as goal

pub returns : goal.returns
returns c = callees_have_few c.scopes_are_sound.ensures c.names_are_known.ensures c.premises_hold.ensures
