use Rattle.types.proofs.Apart.{parts_have_places}
use Rattle.types.proofs.laws.parts_have_places.Goals as goal

pub returns : goal.returns
returns c = parts_have_places
