use Rattle.types.proofs.Apart.{objects_lie_apart}
use Rattle.types.proofs.laws.objects_lie_apart.Goals as goal

pub returns : goal.returns
returns c = objects_lie_apart
