use Rattle.legality.proofs.Numbers.{objects_stand}
use Rattle.legality.proofs.laws.objects_stand_at_their_numbers.Goals as goal

pub returns : goal.returns
returns c = objects_stand
