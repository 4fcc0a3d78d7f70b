use Rattle.std.proofs.Common.{map, take}
use Rattle.ada_tree.specs.ProgramTree.{item_tree}
use Rattle.package_code.specs.Objects.{AddsObjects}
use Rattle.package_code.proofs.objects.ProtectedObjects.items.Given as goal

abbrev pub invariant-loop-item : goal.invariant-loop-item
invariant-loop-item l = AddsObjects l.scope l.fn.self (map item_tree (take l.item-index l.items)) l.self
