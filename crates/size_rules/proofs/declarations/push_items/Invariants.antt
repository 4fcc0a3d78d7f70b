use Rattle.std.proofs.Common.{◌≡◌, ◌++◌, drop, map}
use Rattle.ada_tree.specs.ProgramTree.{item_tree}
use Rattle.declaration_rules.specs.ItemRules.{items_scope}
use Rattle.size_rules.specs.PackageSizes.{items_things}
use Rattle.size_rules.proofs.declarations.push_items.Given as goal

abbrev pub invariant-loop-item : goal.invariant-loop-item
invariant-loop-item l =
    record {
      scope : items_scope l.scope (map item_tree (drop l.item-index l.items)) ≡ items_scope l.fn.scope (map item_tree l.items);
      things : l.things.items ++ items_things l.scope (map item_tree (drop l.item-index l.items))
          ≡ l.fn.things.items ++ items_things l.fn.scope (map item_tree l.items);
    }
