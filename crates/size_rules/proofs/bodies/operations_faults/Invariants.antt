use Rattle.std.proofs.Common.{◌≡◌, ◌++◌, drop, map}
use Rattle.ada_tree.specs.ProgramTree.{protected_item_tree}
use Rattle.expr_rules.specs.Findings.{noted}
use Rattle.size_rules.specs.PackageSizes.{operations_faults, operations_inside}
use Rattle.size_rules.proofs.bodies.operations_faults.Given as goal

abbrev pub invariant-loop-item : goal.invariant-loop-item
invariant-loop-item l =
    record {
      found : noted l.found (operations_faults l.scope (map protected_item_tree (drop l.item-index l.items)))
          ≡ noted l.fn.found (operations_faults l.scope (map protected_item_tree l.items));
      inside : l.inside.items ++ operations_inside l.scope (map protected_item_tree (drop l.item-index l.items))
          ≡ l.fn.inside.items ++ operations_inside l.scope (map protected_item_tree l.items);
    }
