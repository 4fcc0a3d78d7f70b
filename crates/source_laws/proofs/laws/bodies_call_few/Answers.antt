use Rattle.source_laws.proofs.InsideCallees.{bodies_call_few}
use Rattle.source_laws.proofs.laws.bodies_call_few.Goals as goal

pub returns : goal.returns
returns c =
    bodies_call_few c.scopes_are_sound.ensures c.names_are_known.ensures c.premises_hold.ensures c.callees_have_few.ensures
