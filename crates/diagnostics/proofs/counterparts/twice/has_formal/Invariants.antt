use Rattle.std.proofs.Common.{◌≡◌, drop}
use Rattle.std.specs.List.{list_any}
use Rattle.diagnostics.specs.counterparts.Fronts.{is_at}
use Rattle.diagnostics.proofs.counterparts.twice.has_formal.Given as goal

-- what is left decides
abbrev pub invariant-loop-formal : goal.invariant-loop-formal
invariant-loop-formal l = list_any (λ f. is_at l.fn.place f.name) (drop l.formal-index l.fn.formals) ≡ list_any (λ f. is_at l.fn.place f.name) l.fn.formals
