use Rattle.std.proofs.Common.{◌≡◌, drop}
use Rattle.std.specs.List.{find}
use Rattle.remedies.specs.TextTokens.{is_name_from}
use Rattle.remedies.proofs.text_tokens.first_same_in.Given as goal

-- what is left decides
abbrev pub invariant-loop-number : goal.invariant-loop-number
invariant-loop-number l = find (is_name_from l.fn.name l.fn.tokens l.fn.from) (drop l.number-index l.fn.numbers) ≡ find (is_name_from l.fn.name l.fn.tokens l.fn.from) l.fn.numbers
