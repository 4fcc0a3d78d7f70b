use Rattle.std.proofs.Common.{rules}
use Rattle.package_code.proofs.Declared.{told_in_body}
use Rattle.package_code.proofs.ComponentSlots.{body_objects_next, body_object_refused}
use Rattle.package_code.proofs.objects.ProtectedObjects.body_items.Goals as goal

pub loop-item-preserved : goal.loop-item-preserved
loop-item-preserved c =
    body_objects_next c.args.scope.now c.args.self.now c.loop-item.self c.body_item.new.self c.args.items.now c.loop-item.item-index c.item-item.result
    c.loop-item-test.true c.item-item.is c.loop-item.invariant c.in_ok-body_item.ensures.adds

pub returns-in_err-body_item-clause-refused : goal.returns-in_err-body_item-clause-refused
returns-in_err-body_item-clause-refused c =
    let whole = body_object_refused c.args.scope.now c.args.items.now c.loop-item.item-index c.item-item.result c.in_err-body_item.field-0.0 c.loop-item-test.true
    c.item-item.is c.in_err-body_item.ensures.refused in
    search (rules, whole)

pub body_item-requires-clause-told : goal.body_item-requires-clause-told
body_item-requires-clause-told c =
    told_in_body c.args.scope.now c.args.items.now c.loop-item.item-index c.item-item.result c.loop-item-test.true c.item-item.is c.requires.told
