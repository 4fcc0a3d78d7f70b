use Rattle.std.proofs.Common.{◌≡◌, drop}
use Rattle.remedies.specs.Misspelled.{is_closed}
use Rattle.remedies.proofs.spelling.is_closed.Given as goal

-- what is left decides
abbrev pub invariant-loop-byte : goal.invariant-loop-byte
invariant-loop-byte l = is_closed (drop l.byte-index l.fn.text) ≡ is_closed l.fn.text
