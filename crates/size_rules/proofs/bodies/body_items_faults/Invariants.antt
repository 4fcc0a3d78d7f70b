use Rattle.std.proofs.Common.{◌≡◌, ◌++◌, drop, map}
use Rattle.ada_tree.specs.ProgramTree.{body_item_tree}
use Rattle.expr_rules.specs.Findings.{noted}
use Rattle.size_rules.specs.PackageSizes.{body_items_faults, body_items_inside, body_items_things}
use Rattle.size_rules.proofs.bodies.body_items_faults.Given as goal

abbrev pub invariant-loop-item : goal.invariant-loop-item
invariant-loop-item l =
    record {
      found : noted l.found (body_items_faults l.scope (map body_item_tree (drop l.item-index l.items)))
          ≡ noted l.fn.found (body_items_faults l.fn.scope (map body_item_tree l.items));
      things : l.things.items ++ body_items_things l.scope (map body_item_tree (drop l.item-index l.items))
          ≡ l.fn.things.items ++ body_items_things l.fn.scope (map body_item_tree l.items);
      inside : l.inside.items ++ body_items_inside l.scope (map body_item_tree (drop l.item-index l.items))
          ≡ l.fn.inside.items ++ body_items_inside l.fn.scope (map body_item_tree l.items);
    }
