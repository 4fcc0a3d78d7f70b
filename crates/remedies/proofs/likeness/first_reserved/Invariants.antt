use Rattle.std.proofs.Common.{◌≡◌, drop}
use Rattle.remedies.specs.Likeness.{first_reserved}
use Rattle.remedies.proofs.likeness.first_reserved.Given as goal

-- what is left decides
abbrev pub invariant-loop-word : goal.invariant-loop-word
invariant-loop-word l = first_reserved (drop l.word-index l.fn.words) l.fn.name ≡ first_reserved l.fn.words l.fn.name
