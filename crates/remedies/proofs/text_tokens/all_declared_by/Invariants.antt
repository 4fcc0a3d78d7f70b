use Rattle.std.proofs.Common.{◌≡◌, ◌-◌, ◌++◌, length}
use Rattle.remedies.specs.TextTokens.{all_declared_by, is_declared_by, numbers_where}
use Rattle.remedies.proofs.text_tokens.all_declared_by.Given as goal

-- what is left adds the rest
abbrev pub invariant-loop-number : goal.invariant-loop-number
invariant-loop-number l =
    l.numbers.items ++ numbers_where (is_declared_by l.fn.way l.fn.tokens) l.number (length l.fn.tokens - l.number) ≡ all_declared_by l.fn.way l.fn.tokens

abbrev pub decreases-loop-number : goal.decreases-loop-number
decreases-loop-number l = length l.tokens - l.number
