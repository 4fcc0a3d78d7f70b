use Rattle.std.proofs.Common.{◌≡◌, ◌+◌, drop}
use Rattle.remedies.specs.Recognition.{count_before}
use Rattle.remedies.proofs.recognition.count_before.Given as goal

-- what is left decides
abbrev pub invariant-loop-number : goal.invariant-loop-number
invariant-loop-number l = l.number + count_before l.fn.place (drop l.number l.fn.tokens) ≡ count_before l.fn.place l.fn.tokens
