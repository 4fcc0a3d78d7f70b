use Rattle.std.proofs.Common.{rules}
use Rattle.dispatch.proofs.Rings.{filled_behind, marked}
use Rattle.dispatch.proofs.ring_ready.RingReadyReady.add_tail.Goals as goal

pub invariant_of-self : goal.invariant_of-self
invariant_of-self c = (
  search rules,
  marked c.self.inside.occupied c.args.priority c.self.inside.rings c.from.result _ c.from.ensures c.requires.priority c.self.invariant.0
      (filled_behind _ _ c.args.task c.push_back.ensures) c.self.invariant.1,
)
