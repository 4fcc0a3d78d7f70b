use Rattle.std.proofs.Common.{rules}
use Rattle.dispatch.proofs.Rings.{unmarked}
use Rattle.dispatch.proofs.ring_ready.RingReadyReady.take_highest.Goals as goal

pub invariant_of-self : goal.invariant_of-self
invariant_of-self c = (
  search rules,
  unmarked c.self.inside.occupied c.in_ok-priority.priority c.self.inside.rings c.from.result _ c.from.ensures c.in_ok-priority.ensures.below c.self.invariant.0
      (search rules) c.self.invariant.1,
)
