use Rattle.clock.proofs.Adding.{empty_numbered}
use Rattle.clock.proofs.heap_delays.HeapDelays.numbered_from.Goals as goal

pub invariant_of-result : goal.invariant_of-result
invariant_of-result c = empty_numbered c.args.number c.new.result c.new.ensures
