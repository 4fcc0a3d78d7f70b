use Rattle.std.proofs.Common.{◌≡◌, map, take}
use Rattle.ada_tree.specs.ProgramTree.{body_item_tree}
use Rattle.package_code.specs.Bodies.{bodies_among}
use Rattle.package_code.specs.Directory.{HaveBodyNumbers}
use Rattle.package_code.proofs.directory.number_items.Given as goal

abbrev pub invariant-loop-item : goal.invariant-loop-item
invariant-loop-item l =
    HaveBodyNumbers l.scope (map body_item_tree (take l.item-index l.items)) l.numbers.items
    × (l.next ≡ bodies_among (map body_item_tree (take l.item-index l.items)))
