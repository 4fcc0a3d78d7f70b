use Rattle.kernel.proofs.Order.{schedules_in_order}
use Rattle.kernel.proofs.laws.schedules_in_order.Goals as goal

pub returns : goal.returns
returns c = schedules_in_order
