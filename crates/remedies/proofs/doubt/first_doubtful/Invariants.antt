use Rattle.std.proofs.Common.{◌≡◌, ◌-◌, length}
use Rattle.remedies.specs.Doubts.{is_doubtful}
use Rattle.remedies.specs.Likeness.{first_where}
use Rattle.remedies.proofs.doubt.first_doubtful.Given as goal

-- what is left decides
abbrev pub invariant-loop-number : goal.invariant-loop-number
invariant-loop-number l = first_where (is_doubtful l.fn.tokens) l.number (length l.fn.tokens - l.number) ≡ first_where (is_doubtful l.fn.tokens) l.fn.from (length l.fn.tokens - l.fn.from)

abbrev pub decreases-loop-number : goal.decreases-loop-number
decreases-loop-number l = length l.tokens - l.number
