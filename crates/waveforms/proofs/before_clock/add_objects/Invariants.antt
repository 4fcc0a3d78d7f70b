use Rattle.std.proofs.Common.{◌≡◌, ◌++◌, length, vec_capacity, vec_len}
use Rattle.execution.specs.Held.{world_of}
use Rattle.waveforms.specs.Instants.{waiting_world}
use Rattle.waveforms.specs.Signals.{all_below, object_first, shown_object}
use Rattle.waveforms.proofs.before_clock.add_objects.Given as goal

abbrev pub invariant-loop-object : goal.invariant-loop-object
invariant-loop-object g l =
    (l.values.items ≡ l.fn.values.items ++ all_below l.object (shown_object l.fn.scopes (waiting_world (world_of l.fn.machine))))
    × (vec_len l.values ≡ object_first l.fn.scopes (length l.fn.machine.image.tasks) l.object)
    × (vec_capacity l.values ≡ vec_capacity l.fn.values)
