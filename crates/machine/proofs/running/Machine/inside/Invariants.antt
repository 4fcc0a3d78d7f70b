use Rattle.std.proofs.Common.{◌≡◌, ◌++◌, drop, map}
use Rattle.kernel.specs.Interrupts.{told}
use Rattle.tasking.specs.Held.{kernel_of}
use Rattle.machine.proofs.running.Machine.inside.Given as goal

-- the numbers of those that are left, behind those that stand, are all
abbrev pub invariant-loop-task : goal.invariant-loop-task
invariant-loop-task g l =
    let f = told (kernel_of l.tasking).partition in
    l.numbers.items ++ map f (drop l.task-index l.tasks) ≡ map f l.tasks
