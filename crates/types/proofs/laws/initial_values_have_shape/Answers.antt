use Rattle.types.proofs.Words.{initial_has_shape}
use Rattle.types.proofs.laws.initial_values_have_shape.Goals as goal

pub returns : goal.returns
returns c = initial_has_shape
