use Rattle.std.proofs.Common.{map, take}
use Rattle.ada_tree.specs.ProgramTree.{body_item_tree}
use Rattle.expr_soundness.specs.meaning.specs.Programs.{items_among}
use Rattle.package_code.specs.Globals.{AddsItems}
use Rattle.package_code.proofs.globals.Globals.body_items.Given as goal

abbrev pub invariant-loop-item : goal.invariant-loop-item
invariant-loop-item l = AddsItems l.scope l.fn.self (items_among (map body_item_tree (take l.item-index l.items))) l.self
