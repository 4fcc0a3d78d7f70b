use Rattle.variable_places.proofs.Walked.{body_scope_next}
use Rattle.variable_places.proofs.program.push_body_items.Goals as goal

pub loop-item-preserved : goal.loop-item-preserved
loop-item-preserved c =
    body_scope_next c.args.names.now c.args.scopes.now.items c.loop-item.scopes.items c.push_body_item.new.scopes.items c.args.items.now c.loop-item.item-index c.item-item.result
    c.loop-item-test.true c.item-item.is c.loop-item.invariant c.in_ok-push_body_item.ensures
