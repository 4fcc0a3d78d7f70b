use Rattle.std.proofs.Common.{◌≡◌, drop}
use Rattle.remedies.specs.Misspelled.{has_blank}
use Rattle.remedies.proofs.spelling.has_blank.Given as goal

-- what is left decides
abbrev pub invariant-loop-byte : goal.invariant-loop-byte
invariant-loop-byte l = has_blank (drop l.byte-index l.fn.text) ≡ has_blank l.fn.text
