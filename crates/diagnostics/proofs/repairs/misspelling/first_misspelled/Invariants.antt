use Rattle.diagnostics.specs.repairs.Misspellings.{IsMisspelledAt}
use Rattle.diagnostics.proofs.Firsts.{Decides}
use Rattle.diagnostics.proofs.repairs.misspelling.first_misspelled.Given as goal

-- what is left decides
abbrev pub invariant-loop-reach : goal.invariant-loop-reach
invariant-loop-reach l = Decides (IsMisspelledAt l.fn.count l.fn.tokens) l.fn.reaches l.reach-index
