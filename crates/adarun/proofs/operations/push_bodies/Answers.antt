use Rattle.adarun.proofs.BodyNames.{body_next}
use Rattle.adarun.proofs.operations.push_bodies.Goals as goal

pub loop-item-preserved : goal.loop-item-preserved
loop-item-preserved c =
    body_next c.args.names.now.items c.loop-item.names.items c.push_bodies_of.new.names.items c.args.items.now c.loop-item.item-index c.item-item.result
    c.loop-item-test.true c.item-item.is c.loop-item.invariant c.in_ok-push_bodies_of.ensures
