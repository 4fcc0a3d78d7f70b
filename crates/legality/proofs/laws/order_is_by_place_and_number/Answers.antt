use Rattle.legality.proofs.Turns.{order_is_by_place_and_number}
use Rattle.legality.proofs.laws.order_is_by_place_and_number.Goals as goal

pub returns : goal.returns
returns c = order_is_by_place_and_number
