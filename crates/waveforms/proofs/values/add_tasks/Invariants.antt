use Rattle.std.proofs.Common.{◌≡◌, ◌+◌, ◌*◌, ◌++◌, vec_capacity, vec_len}
use Rattle.tasking.specs.Held.{kernel_of}
use Rattle.waveforms.specs.Signals.{all_below, task_values}
use Rattle.waveforms.proofs.values.add_tasks.Given as goal

abbrev pub invariant-loop-task : goal.invariant-loop-task
invariant-loop-task g l =
    (l.values.items ≡ l.fn.values.items ++ all_below l.task (task_values (kernel_of l.fn.machine.tasking)))
    × (vec_len l.values ≡ vec_len l.fn.values + 2 * l.task)
    × (vec_capacity l.values ≡ vec_capacity l.fn.values)
