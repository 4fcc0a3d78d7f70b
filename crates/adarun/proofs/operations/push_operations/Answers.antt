use Rattle.std.proofs.Common.{◌∙◌, ◌∷◌, ◌++◌, [], ap}
use Rattle.adarun.proofs.BodyNames.{operation_next}
use Rattle.adarun.proofs.operations.push_operations.Goals as goal

pub loop-item-preserved : goal.loop-item-preserved
loop-item-preserved c =
    operation_next c.args.names.now.items c.loop-item.names.items c.push.new.self.items c.args.items.now c.loop-item.item-index c.item-item.result
    c.loop-item-test.true c.item-item.is c.loop-item.invariant
    (c.in_ok-push.ensures.items ∙ ap (λ name. c.loop-item.names.items ++ name ∷ []) (c.in_ok-clone.ensures.cases ∙ c.own_name.ensures))
