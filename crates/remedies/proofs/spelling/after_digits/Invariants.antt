use Rattle.std.proofs.Common.{◌≡◌, ◌≤◌, ◌-◌, drop, length}
use Rattle.remedies.specs.Misspelled.{after_digits}
use Rattle.remedies.proofs.spelling.after_digits.Given as goal

-- what is left decides
abbrev pub invariant-loop-at : goal.invariant-loop-at
invariant-loop-at l = (after_digits (drop l.at l.fn.text) ≡ after_digits l.fn.text) × (l.at ≤ length l.fn.text)

abbrev pub decreases-loop-at : goal.decreases-loop-at
decreases-loop-at l = length l.text - l.at
