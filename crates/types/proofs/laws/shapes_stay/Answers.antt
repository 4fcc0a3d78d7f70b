use Rattle.types.proofs.Sizes.{shapes_stay}
use Rattle.types.proofs.laws.shapes_stay.Goals as goal

pub returns : goal.returns
returns c = shapes_stay
