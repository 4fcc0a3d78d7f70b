use Rattle.std.proofs.Common.{◌≡◌, ◌+◌, ◌<◌, ◌++◌, length}
use Rattle.std.specs.Prelude.{◌+ℤ◌, ◌≤ℤ◌, pos}
use Rattle.choices.specs.Texts.{distance, values_from}
use Rattle.choices.specs.declared.slot.TheConstants.{ALTERNATIVES}
use Rattle.choices.proofs.ranges.push_values.Given as goal

abbrev pub invariant-loop-left : goal.invariant-loop-left
invariant-loop-left l =
    (l.alternatives.items ++ values_from l.value (l.left + 1) ≡ l.fn.alternatives.items ++ values_from l.fn.first (distance l.fn.first l.fn.last + 1))
    × ((0 < l.left → (l.value +ℤ pos l.left) ≤ℤ l.fn.last) × (length l.alternatives.items + l.left < ALTERNATIVES))

abbrev pub decreases-loop-left : goal.decreases-loop-left
decreases-loop-left l = l.left
