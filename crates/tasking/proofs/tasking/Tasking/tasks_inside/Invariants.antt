use Rattle.std.proofs.Common.{◌≡◌, ◌≤◌, length}
use Rattle.kernel.specs.State.{inside_among}
use Rattle.tasking.specs.Held.{kernel_of}
use Rattle.tasking.proofs.tasking.Tasking.tasks_inside.Given as goal

abbrev pub invariant-loop-task : goal.invariant-loop-task
invariant-loop-task g l = (l.tasks.items ≡ inside_among l.task (kernel_of l.self) l.object) × (length l.tasks.items ≤ l.task)
