use Rattle.std.proofs.Common.{◌≡◌, drop}
use Rattle.std.specs.List.{find}
use Rattle.remedies.specs.TextTokens.{is_near_name}
use Rattle.remedies.proofs.text_tokens.first_near_in.Given as goal

-- what is left decides
abbrev pub invariant-loop-number : goal.invariant-loop-number
invariant-loop-number l = find (is_near_name l.fn.name l.fn.tokens) (drop l.number-index l.fn.numbers) ≡ find (is_near_name l.fn.name l.fn.tokens) l.fn.numbers
