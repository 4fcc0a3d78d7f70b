use Rattle.std.proofs.Common.{◌≡◌, drop, map}
use Rattle.ada_tree.specs.StatementTree.{protected_component_tree}
use Rattle.diagnostics.specs.counterparts.Fronts.{first_own_component}
use Rattle.diagnostics.proofs.counterparts.fronts.first_own_component.Given as goal

-- what is left decides
abbrev pub invariant-loop-component : goal.invariant-loop-component
invariant-loop-component l =
    first_own_component l.fn.name l.fn.place (map protected_component_tree (drop l.component-index l.fn.components))
    ≡ first_own_component l.fn.name l.fn.place (map protected_component_tree l.fn.components)
