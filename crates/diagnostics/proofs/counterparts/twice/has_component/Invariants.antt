use Rattle.std.proofs.Common.{◌≡◌, drop}
use Rattle.std.specs.List.{list_any}
use Rattle.diagnostics.specs.counterparts.Fronts.{is_at}
use Rattle.diagnostics.proofs.counterparts.twice.has_component.Given as goal

-- what is left decides
abbrev pub invariant-loop-component : goal.invariant-loop-component
invariant-loop-component l =
    list_any (λ c. is_at l.fn.place c.name) (drop l.component-index l.fn.components)
    ≡ list_any (λ c. is_at l.fn.place c.name) l.fn.components
