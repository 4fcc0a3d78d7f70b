use Rattle.std.proofs.Common.{◌≡◌, ◌++◌, drop, map}
use Rattle.ada_tree.specs.ProgramTree.{protected_item_tree}
use Rattle.types.specs.Entities.{protected_value}
use Rattle.size_rules.specs.PackageSizes.{protected_items_things}
use Rattle.size_rules.proofs.declarations.push_protected_items.Given as goal

abbrev pub invariant-loop-item : goal.invariant-loop-item
invariant-loop-item l =
    l.things.items ++ protected_items_things (protected_value l.object) (map protected_item_tree (drop l.item-index l.items))
    ≡ l.fn.things.items ++ protected_items_things (protected_value l.object) (map protected_item_tree l.items)
