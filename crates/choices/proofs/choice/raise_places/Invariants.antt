use Rattle.std.proofs.Common.{◌-◌, ◌≤◌, length}
use Rattle.choices.specs.Stepping.{IsFurther}
use Rattle.choices.proofs.choice.raise_places.Given as goal

abbrev pub invariant-loop-at : goal.invariant-loop-at
invariant-loop-at l = IsFurther l.slots l.front l.fn.places l.places × (l.front ≤ l.at)

abbrev pub decreases-loop-at : goal.decreases-loop-at
decreases-loop-at l = length l.slots - l.at
