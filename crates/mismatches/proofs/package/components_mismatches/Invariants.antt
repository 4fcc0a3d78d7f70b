use Rattle.std.proofs.Common.{◌≡◌, drop, map}
use Rattle.ada_tree.specs.StatementTree.{protected_component_tree}
use Rattle.mismatches.specs.Conflicts.{noted}
use Rattle.mismatches.specs.BodyMismatches.{components_mismatches}
use Rattle.mismatches.proofs.package.components_mismatches.Given as goal

abbrev pub invariant-loop-component : goal.invariant-loop-component
invariant-loop-component l =
    noted l.search (components_mismatches l.scope (map protected_component_tree (drop l.component-index l.components)))
    ≡ noted l.fn.search (components_mismatches l.scope (map protected_component_tree l.components))
