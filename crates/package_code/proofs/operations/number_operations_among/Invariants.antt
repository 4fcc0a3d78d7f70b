use Rattle.std.proofs.Common.{◌≡◌, map, take}
use Rattle.ada_tree.specs.ProgramTree.{body_item_tree}
use Rattle.package_code.specs.Bodies.{bodies_among}
use Rattle.package_code.specs.Directory.{entries_among}
use Rattle.package_code.proofs.operations.number_operations_among.Given as goal

abbrev pub invariant-loop-item : goal.invariant-loop-item
invariant-loop-item l =
    (l.operations.items ≡ entries_among l.scope 0 (map body_item_tree (take l.item-index l.items)))
    × (l.next ≡ bodies_among (map body_item_tree (take l.item-index l.items)))
