use Rattle.std.proofs.Common.{◌≡◌, drop}
use Rattle.diagnostics.specs.hints.Places.{name_at}
use Rattle.diagnostics.proofs.hints.places.first_name_at.Given as goal

-- what is left decides
abbrev pub invariant-loop-token : goal.invariant-loop-token
invariant-loop-token l = name_at l.fn.place (drop l.token-index l.fn.tokens) ≡ name_at l.fn.place l.fn.tokens
