use Rattle.source_laws.proofs.SmallBodies.{small_is_unlimited}
use Rattle.source_laws.proofs.laws.small_is_unlimited.Goals as goal

pub returns : goal.returns
returns c = small_is_unlimited c.small_code_fits.ensures
