use Rattle.std.proofs.Common.{◌≡◌, ◌-◌, take}
use Rattle.choices.proofs.choice.is_before_within.Given as goal

abbrev pub invariant-loop-at : goal.invariant-loop-at
invariant-loop-at l = take l.at l.places ≡ take l.at l.others

abbrev pub decreases-loop-at : goal.decreases-loop-at
decreases-loop-at l = l.front - l.at
