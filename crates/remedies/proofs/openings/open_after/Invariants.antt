use Rattle.std.proofs.Common.{◌≡◌, drop}
use Rattle.remedies.specs.Openings.{nothing_open, openings_from}
use Rattle.remedies.proofs.openings.open_after.Given as goal

-- what is left decides
abbrev pub invariant-loop-before : goal.invariant-loop-before
invariant-loop-before l = openings_from l.openings l.before (drop l.before l.fn.tokens) ≡ openings_from nothing_open 0 l.fn.tokens
