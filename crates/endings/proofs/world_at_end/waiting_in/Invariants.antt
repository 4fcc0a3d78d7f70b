use Rattle.std.proofs.Common.{◌≡◌, ◌++◌, ◌-◌, length}
use Rattle.tasking.specs.Held.{kernel_of}
use Rattle.endings.specs.LastSteps.{waiting_from}
use Rattle.endings.proofs.world_at_end.waiting_in.Given as goal

-- what is left is still to be added
abbrev pub invariant-loop-task : goal.invariant-loop-task
invariant-loop-task g l =
    l.waiting.items ++ waiting_from (kernel_of l.fn.machine.tasking).place l.fn.lasts l.task (length l.fn.machine.image.tasks - l.task)
    ≡ waiting_from (kernel_of l.fn.machine.tasking).place l.fn.lasts 0 (length l.fn.machine.image.tasks)
