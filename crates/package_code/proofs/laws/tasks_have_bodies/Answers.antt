use Rattle.package_code.proofs.TaskRows.{tasks_have_bodies}
use Rattle.package_code.proofs.laws.tasks_have_bodies.Goals as goal

pub returns : goal.returns
returns c = tasks_have_bodies c.scopes_are_sound.ensures c.names_are_known.ensures c.premises_hold.ensures
