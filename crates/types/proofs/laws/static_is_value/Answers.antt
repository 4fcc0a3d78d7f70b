use Rattle.types.proofs.Fixed.{static_is_value}
use Rattle.types.proofs.laws.static_is_value.Goals as goal

pub returns : goal.returns
returns c = static_is_value
