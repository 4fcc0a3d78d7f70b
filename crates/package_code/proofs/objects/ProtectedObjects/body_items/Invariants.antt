use Rattle.std.proofs.Common.{map, take}
use Rattle.ada_tree.specs.ProgramTree.{body_item_tree}
use Rattle.expr_soundness.specs.meaning.specs.Programs.{items_among}
use Rattle.package_code.specs.Objects.{AddsObjects}
use Rattle.package_code.proofs.objects.ProtectedObjects.body_items.Given as goal

abbrev pub invariant-loop-item : goal.invariant-loop-item
invariant-loop-item l = AddsObjects l.scope l.fn.self (items_among (map body_item_tree (take l.item-index l.items))) l.self
