use Rattle.std.proofs.Common.{◌≡◌, drop}
use Rattle.diagnostics.specs.counterparts.Fronts.{first_formal}
use Rattle.diagnostics.proofs.counterparts.fronts.first_formal.Given as goal

-- what is left decides
abbrev pub invariant-loop-formal : goal.invariant-loop-formal
invariant-loop-formal l = first_formal l.fn.name l.fn.place (drop l.formal-index l.fn.formals) ≡ first_formal l.fn.name l.fn.place l.fn.formals
