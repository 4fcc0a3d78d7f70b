use Rattle.std.proofs.Common.{rules}
use Rattle.package_code.proofs.Numbered.{items_refused}
use Rattle.package_code.proofs.OperationEntries.{items_entered}
use Rattle.package_code.proofs.operations.number_operations_among.Goals as goal

pub returns-in_err-next-clause-refused : goal.returns-in_err-next-clause-refused
returns-in_err-next-clause-refused c =
    let whole = items_refused c.args.items.now c.loop-item.item-index c.item-item.result c.loop-item.next c.in_err-next.field-0.0 c.loop-item-test.true
    c.item-item.is c.loop-item.invariant.1 c.in_err-next.ensures.refused in
    search (rules, whole)

pub loop-item-preserved : goal.loop-item-preserved
loop-item-preserved c =
    items_entered c.args.scope.now c.args.items.now c.loop-item.item-index c.item-item.result c.loop-item.operations.items
    c.number_operations_in.new.operations.items c.loop-item.next c.in_ok-next.next c.loop-item-test.true c.item-item.is c.loop-item.invariant.0
    c.loop-item.invariant.1 c.in_ok-next.ensures.operations c.in_ok-next.ensures.next
