use Rattle.std.proofs.Common.{◌≡◌, drop, map}
use Rattle.ada_tree.specs.StatementTree.{protected_component_tree}
use Rattle.declaration_rules.specs.ProtectedRules.{object_components}
use Rattle.expr_rules.specs.Walks.{behind}
use Rattle.declaration_rules.proofs.protected.object_components.Given as goal

abbrev pub invariant-loop-component : goal.invariant-loop-component
invariant-loop-component l =
    behind l.all.items (object_components l.scope (map protected_component_tree (drop l.component-index l.components))) ≡ object_components l.scope (map protected_component_tree l.components)
