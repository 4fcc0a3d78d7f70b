use Rattle.std.proofs.Common.{◌≡◌, ◌≤◌, ◌++◌, drop, length}
use Rattle.choices.specs.Texts.{alternatives_of}
use Rattle.choices.specs.declared.slot.TheConstants.{ALTERNATIVES}
use Rattle.choices.proofs.ranges.alternatives.Given as goal

abbrev pub invariant-loop-range : goal.invariant-loop-range
invariant-loop-range l =
    (l.alternatives.items ++ alternatives_of (drop l.range-index l.ranges) ≡ alternatives_of l.fn.ranges) × (length l.alternatives.items ≤ ALTERNATIVES)
