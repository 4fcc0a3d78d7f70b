use Rattle.types.proofs.Walks.{static_bounds}
use Rattle.types.proofs.laws.static_bounds.Goals as goal

pub returns : goal.returns
returns c = static_bounds
