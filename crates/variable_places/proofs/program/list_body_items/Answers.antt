use Rattle.variable_places.proofs.Walked.{body_item_next}
use Rattle.variable_places.proofs.program.list_body_items.Goals as goal

pub loop-item-preserved : goal.loop-item-preserved
loop-item-preserved c =
    body_item_next c.args.names.now c.args.listing.now c.loop-item.listing c.list_body_item.new.listing c.args.items.now c.loop-item.item-index c.item-item.result
    c.loop-item-test.true c.item-item.is c.loop-item.invariant c.in_ok-list_body_item.ensures
