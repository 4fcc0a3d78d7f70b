use Rattle.declaration_rules.proofs.Growing.{object_bodies_end}
use Rattle.declaration_rules.proofs.laws.object_bodies_end.Goals as goal

pub returns : goal.returns
returns c = object_bodies_end
