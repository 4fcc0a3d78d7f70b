use Rattle.std.proofs.Common.{◌≡◌, drop}
use Rattle.diagnostics.specs.counterparts.Fronts.{first_component}
use Rattle.diagnostics.proofs.counterparts.fronts.first_component.Given as goal

-- what is left decides
abbrev pub invariant-loop-component : goal.invariant-loop-component
invariant-loop-component l =
    first_component l.fn.name l.fn.place (drop l.component-index l.fn.components)
    ≡ first_component l.fn.name l.fn.place l.fn.components
