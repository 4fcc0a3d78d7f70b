use Rattle.std.proofs.Common.{◌≡◌, ◌+◌, ◌++◌, map, take}
use Rattle.ada_tree.specs.ProgramTree.{protected_item_tree}
use Rattle.package_code.specs.Directory.{entries_of}
use Rattle.package_code.proofs.operations.number_operations_of.Given as goal

abbrev pub invariant-loop-item : goal.invariant-loop-item
invariant-loop-item l =
    (l.operations.items ≡ l.fn.operations.items ++ entries_of l.object l.first (map protected_item_tree (take l.item-index l.items)))
    × (l.next ≡ l.first + l.item-index)
