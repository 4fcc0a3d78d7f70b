use Rattle.std.proofs.Common.{◌≡◌, ◌++◌, drop, map}
use Rattle.ada_tree.specs.StatementTree.{protected_component_tree}
use Rattle.size_rules.specs.PackageSizes.{components_things}
use Rattle.size_rules.proofs.declarations.push_components.Given as goal

abbrev pub invariant-loop-component : goal.invariant-loop-component
invariant-loop-component l =
    l.things.items ++ components_things l.scope (map protected_component_tree (drop l.component-index l.components))
    ≡ l.fn.things.items ++ components_things l.scope (map protected_component_tree l.components)
