use Rattle.std.proofs.Common.{◌≡◌, ◌+◌, ◌-◌, ◌*◌, ◌<◌, ◌≤◌}
use Rattle.choices.specs.Sets.{slots_from, with_slots}
use Rattle.choices.specs.Texts.{count_of}
use Rattle.choices.proofs.set.add_slots.Given as goal

abbrev pub invariant-loop-left : goal.invariant-loop-left
invariant-loop-left l =
    (with_slots l.slots.items (slots_from l.time l.line.times.step l.line.channel l.line.alternatives.items l.left)
    ≡ with_slots l.fn.slots.items (slots_from l.line.times.first l.line.times.step l.line.channel l.line.alternatives.items (count_of l.line.times)))
    × (0 < l.left → l.time + (l.left - 1) * l.line.times.step ≤ l.line.times.last)

abbrev pub decreases-loop-left : goal.decreases-loop-left
decreases-loop-left l = l.left
