use Rattle.std.proofs.Common.{◌≡◌, ◌++◌, drop}
use Rattle.tasking.specs.Held.{kernel_of}
use Rattle.endings.specs.Sources.{left_from}
use Rattle.endings.proofs.sources.left_from.Given as goal

-- what is left is still to be added
abbrev pub invariant-loop-actor : goal.invariant-loop-actor
invariant-loop-actor g l =
    l.next.items ++ left_from l.fn.came (kernel_of l.fn.before.tasking).place (kernel_of l.fn.after.tasking).place l.fn.task l.actor (drop l.actor l.fn.froms)
    ≡ left_from l.fn.came (kernel_of l.fn.before.tasking).place (kernel_of l.fn.after.tasking).place l.fn.task 0 l.fn.froms
