use Rattle.std.proofs.Common.{◌≡◌}
use Rattle.kernel.specs.Clock.{some_queued}
use Rattle.tasking.specs.Held.{kernel_of}
use Rattle.tasking.proofs.tasking.Tasking.some_queued.Given as goal

abbrev pub invariant-loop-object : goal.invariant-loop-object
invariant-loop-object g l = l.is_queued ≡ some_queued (kernel_of l.self).queued l.object
