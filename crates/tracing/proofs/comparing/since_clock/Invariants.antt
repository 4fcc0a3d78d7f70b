use Rattle.std.proofs.Common.{◌≡◌, ◌+◌, ◌≤◌, ◌++◌}
use Rattle.arrayvec.specs.ArrayVec.{array_vec_len}
use Rattle.tasking.specs.Held.{kernel_of}
use Rattle.tracing.specs.Changes.{clock_moved, each, is_later, list_of, waking}
use Rattle.tracing.proofs.comparing.since_clock.Given as goal

abbrev pub invariant-loop-task : goal.invariant-loop-task
invariant-loop-task g l =
    let k = kernel_of l.fn.before.tasking in
    let m = kernel_of l.fn.after.tasking in
    (l.events.items ≡ list_of (clock_moved (is_later k m)) ++ each l.task (waking k m))
    × (array_vec_len l.events ≤ 1 + l.task)
