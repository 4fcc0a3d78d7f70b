use Rattle.std.proofs.Common.{◌≡◌, ◌+◌, ◌≤◌, ◌++◌}
use Rattle.arrayvec.specs.ArrayVec.{array_vec_len}
use Rattle.base.specs.declared.limits.TheConstants.{OBJECTS, TASKS}
use Rattle.tasking.specs.Held.{kernel_of}
use Rattle.tracing.specs.Changes.{calling, each, having_waited}
use Rattle.tracing.proofs.comparing.callers.Given as goal

abbrev pub invariant-loop-task : goal.invariant-loop-task
invariant-loop-task g l =
    let k = kernel_of l.fn.before.tasking in
    let m = kernel_of l.fn.after.tasking in
    (l.events.items ≡ l.fn.events.items ++ each l.task (calling k m l.fn.ran))
    × (array_vec_len l.events ≤ 3 + OBJECTS + l.task)

abbrev pub invariant-loop-waiting : goal.invariant-loop-waiting
invariant-loop-waiting g l =
    let k = kernel_of l.fn.before.tasking in
    let m = kernel_of l.fn.after.tasking in
    (l.events.items ≡ (l.fn.events.items ++ each m.partition.tasks (calling k m l.fn.ran)) ++ each l.waiting (having_waited l.fn.calls k m))
    × (array_vec_len l.events ≤ 3 + OBJECTS + TASKS + l.waiting)
