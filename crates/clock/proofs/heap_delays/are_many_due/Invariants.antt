use Rattle.std.proofs.Common.{◌≡◌, ◌≤◌, ◌+◌, drop, filter, length}
use Rattle.clock.specs.Heaps.{is_due_entry}
use Rattle.clock.proofs.heap_delays.are_many_due.Given as goal

abbrev pub invariant-loop-entry : goal.invariant-loop-entry
invariant-loop-entry l =
    (l.count + length (filter (is_due_entry l.now) (drop l.entry-index l.entries)) ≡ length (filter (is_due_entry l.now) l.entries))
    × (l.count ≤ l.entry-index)
