use Rattle.source_laws.proofs.SmallBodies.{limits_told}
use Rattle.source_laws.proofs.laws.limits_are_told.Goals as goal

pub returns : goal.returns
returns c = limits_told c.small_has_room.ensures c.nothing_is_unfit.ensures
