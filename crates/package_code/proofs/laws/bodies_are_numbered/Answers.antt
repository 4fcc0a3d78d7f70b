use Rattle.package_code.proofs.Numbered.{bodies_numbered}
use Rattle.package_code.proofs.laws.bodies_are_numbered.Goals as goal

pub returns : goal.returns
returns c = bodies_numbered c.scopes_are_sound.ensures c.names_are_known.ensures c.premises_hold.ensures
