use Rattle.std.proofs.Common.{◌≡◌, ◌+◌, ◌≤◌, ◌++◌}
use Rattle.arrayvec.specs.ArrayVec.{array_vec_len}
use Rattle.tasking.specs.Held.{kernel_of}
use Rattle.tracing.specs.Changes.{crossing, each}
use Rattle.tracing.proofs.comparing.crossings.Given as goal

abbrev pub invariant-loop-object : goal.invariant-loop-object
invariant-loop-object g l =
    (l.events.items ≡ l.fn.events.items ++ each l.object (crossing (kernel_of l.fn.before.tasking) (kernel_of l.fn.after.tasking) l.fn.task l.fn.address))
    × (array_vec_len l.events ≤ 3 + l.object)
