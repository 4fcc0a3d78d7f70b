use Rattle.std.proofs.Common.{◌≡◌, ◌≤◌, ◌-◌, length}
use Rattle.std.specs.List.Sorted.{IsPermutation}
use Rattle.clock.specs.Heaps.{is_before}
use Rattle.clock.proofs.Heaps.{order, Sinks}
use Rattle.clock.proofs.heap.sink_front.Given as goal

abbrev pub invariant-loop-child : goal.invariant-loop-child
invariant-loop-child l = (l.at ≤ length l.entries) × (length l.entries ≡ length l.initial.entries) × IsPermutation l.initial.entries l.entries × Sinks is_before order l.entries l.at

abbrev pub decreases-loop-child : goal.decreases-loop-child
decreases-loop-child l = length l.entries - l.at
