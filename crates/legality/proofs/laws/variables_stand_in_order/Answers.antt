use Rattle.legality.proofs.Numbers.{variables_stand}
use Rattle.legality.proofs.laws.variables_stand_in_order.Goals as goal

pub returns : goal.returns
returns c = variables_stand
