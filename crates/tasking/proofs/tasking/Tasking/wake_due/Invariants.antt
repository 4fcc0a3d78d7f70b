use Rattle.std.proofs.Common.{◌≡◌, drop}
use Rattle.tasking.specs.Held.{kernel_of}
use Rattle.tasking.specs.Orderly.{AreAwoken, IsOrderly, all_ready}
use Rattle.tasking.proofs.tasking.Tasking.wake_due.Given as goal

abbrev pub invariant-loop-task : goal.invariant-loop-task
invariant-loop-task g l =
    (all_ready (drop l.task-index l.task-items) (kernel_of l.self) ≡ all_ready l.task-items (kernel_of l.initial.self))
    × (AreAwoken (kernel_of l.self) (drop l.task-index l.task-items) × IsOrderly (kernel_of l.self))
