use Rattle.std.proofs.Common.{◌≡◌, List, [], drop, map, take}
use Rattle.ada_tree.specs.StatementTree.{OperationTree, protected_component_tree}
use Rattle.types.specs.Seen.{AreNames}
use Rattle.expr_rules.specs.Findings.{noted}
use Rattle.declaration_rules.specs.ProtectedRules.{operation_bytes, parts_faults}
use Rattle.declaration_rules.proofs.protected.parts_faults.Given as goal

abbrev pub invariant-loop-component : goal.invariant-loop-component
invariant-loop-component l =
    ((all : List OperationTree)
    → AreNames operation_bytes all l.operations
    → noted l.found (parts_faults l.scope l.own all (map protected_component_tree (take l.component-index l.components)) (map protected_component_tree (drop l.component-index l.components)))
    ≡ noted l.fn.found (parts_faults l.scope l.own all [] (map protected_component_tree l.components)))
    × AreNames (λ c. c.name.name) (map protected_component_tree (take l.component-index l.components)) l.names
