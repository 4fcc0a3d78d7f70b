use Rattle.adarun.proofs.Named.{item_next}
use Rattle.adarun.proofs.naming.push_items.Goals as goal

pub loop-item-preserved : goal.loop-item-preserved
loop-item-preserved c =
    item_next c.args.names.now.items c.loop-item.names.items c.push_item.new.names.items c.args.items.now c.loop-item.item-index c.item-item.result
    c.loop-item-test.true c.item-item.is c.loop-item.invariant c.in_ok-push_item.ensures
