use Rattle.std.proofs.Common.{ap, ◌∙◌}
use Rattle.tasking.specs.Held.{kernel_of, partition_of, pending_of}
use Rattle.tasking.proofs.Starting.{next_starts}
use Rattle.tasking.proofs.tasking.Tasking.start.Goals as goal

pub becomes_ready-requires-clause-task : goal.becomes_ready-requires-clause-task
becomes_ready-requires-clause-task g c =
    let l = c.loop-task in
    (next_starts (partition_of c.args.bases.now c.args.ceilings.now) (pending_of c.args.attached c.args.lines.now) c.requires.priorities l.task c.task_count-task-end.result
    (kernel_of l.tasking) l.invariant c.loop-task-test.true
    (c.task_count-task-end.ensures.same ∙ ap (λ k. k.partition.tasks) c.in_ok-tasking.ensures)).0

pub becomes_ready-requires-clause-nowhere : goal.becomes_ready-requires-clause-nowhere
becomes_ready-requires-clause-nowhere g c =
    let l = c.loop-task in
    (next_starts (partition_of c.args.bases.now c.args.ceilings.now) (pending_of c.args.attached c.args.lines.now) c.requires.priorities l.task c.task_count-task-end.result
    (kernel_of l.tasking) l.invariant c.loop-task-test.true
    (c.task_count-task-end.ensures.same ∙ ap (λ k. k.partition.tasks) c.in_ok-tasking.ensures)).1
