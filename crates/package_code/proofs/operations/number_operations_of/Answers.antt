use Rattle.std.proofs.Common.{◌≡◌, ◌+◌, arith, rules}
use Rattle.ada_tree.specs.ProgramTree.{protected_item_tree}
use Rattle.package_code.specs.Bodies.{own_name}
use Rattle.package_code.proofs.OperationEntries.{entries_next}
use Rattle.package_code.proofs.operations.number_operations_of.Goals as goal

pub loop-item-preserved : goal.loop-item-preserved
loop-item-preserved c =
    let named : c.in_ok-clone.field-0 ≡ own_name (protected_item_tree c.item-item.result) = search rules in
    let goes : c.in_ok-next.next ≡ c.loop-item.next + 1 = search rules in
    let counted = c.loop-item.invariant.1 in (
      entries_next c.args.object c.args.first c.args.operations.now.items c.loop-item.operations.items c.push.new.self.items c.args.items.now
          c.loop-item.item-index c.item-item.result c.loop-item.next c.in_ok-clone.field-0 c.loop-item-test.true c.item-item.is c.loop-item.invariant.0
          c.loop-item.invariant.1 named c.in_ok-push.ensures.items,
      omega (arith, goes, counted),
    )
