use Rattle.std.proofs.Common.{◌≡◌}
use Rattle.kernel.specs.Effects.{activated, blank}
use Rattle.tasking.specs.Held.{kernel_of, partition_of, pending_of}
use Rattle.tasking.proofs.tasking.Tasking.start.Given as goal

abbrev pub invariant-loop-task : goal.invariant-loop-task
invariant-loop-task g l = kernel_of l.tasking ≡ activated l.task (blank (partition_of l.bases l.ceilings) (pending_of l.fn.attached l.lines))
