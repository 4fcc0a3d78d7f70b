use Rattle.std.proofs.Common.{rules, ap}
use Rattle.dispatch.specs.Queues.{is_occupied}
use Rattle.dispatch.proofs.Rings.{marked}
use Rattle.dispatch.proofs.ring_ready.RingReadyReady.add_head.Goals as goal

pub invariant_of-self : goal.invariant_of-self
invariant_of-self c = (
  search rules,
  marked c.self.inside.occupied c.args.priority c.self.inside.rings c.from.result _ c.from.ensures c.requires.priority c.self.invariant.0
      (ap is_occupied c.push_front.ensures) c.self.invariant.1,
)
