use Rattle.std.proofs.Common.{◌≡◌, ◌+◌, ◌≤◌, drop}
use Rattle.diagnostics.specs.hints.Places.{line_from}
use Rattle.diagnostics.proofs.hints.places.line_after.Given as goal

-- what is left decides
abbrev pub invariant-loop-c : goal.invariant-loop-c
invariant-loop-c l = (line_from l.line (drop l.c-index l.fn.text) ≡ line_from 1 l.fn.text) × (l.line ≤ l.c-index + 1)
