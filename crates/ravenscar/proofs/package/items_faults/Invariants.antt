use Rattle.std.proofs.Common.{◌≡◌, drop, map}
use Rattle.ada_tree.specs.ProgramTree.{item_tree}
use Rattle.declaration_rules.specs.ItemRules.{items_scope}
use Rattle.expr_rules.specs.Findings.{noted}
use Rattle.ravenscar.specs.ProgramRules.{items_faults, taken_by_items}
use Rattle.ravenscar.proofs.package.items_faults.Given as goal

abbrev pub invariant-loop-item : goal.invariant-loop-item
invariant-loop-item l =
    record {
      found :
          noted l.found (items_faults l.scope l.taken (map item_tree (drop l.item-index l.items)))
          ≡ noted l.fn.found (items_faults l.fn.scope l.fn.taken (map item_tree l.items));
      scope : items_scope l.scope (map item_tree (drop l.item-index l.items)) ≡ items_scope l.fn.scope (map item_tree l.items);
      taken : taken_by_items l.scope l.taken (map item_tree (drop l.item-index l.items)) ≡ taken_by_items l.fn.scope l.fn.taken (map item_tree l.items);
    }
