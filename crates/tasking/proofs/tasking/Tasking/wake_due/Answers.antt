use Rattle.std.proofs.Common.{◌≡◌, rules, ap, to_z, of_z, w64, ◌∙◌}
use Rattle.tasking.specs.Held.{kernel_of}
use Rattle.tasking.specs.Orderly.{due, waiting}
use Rattle.tasking.proofs.Waking.{all_woken, turn_awoken, turn_nowhere}
use Rattle.tasking.proofs.tasking.Tasking.wake_due.Goals as goal

pub becomes_ready-requires-clause-task : goal.becomes_ready-requires-clause-task
becomes_ready-requires-clause-task g c =
    let l = c.loop-task in
    (turn_nowhere c.as_slice-task-items.result.now l.task-index 0 (kernel_of l.self) c.loop-task-test.true l.invariant.1.0).0

pub becomes_ready-requires-clause-nowhere : goal.becomes_ready-requires-clause-nowhere
becomes_ready-requires-clause-nowhere g c =
    let l = c.loop-task in
    (turn_nowhere c.as_slice-task-items.result.now l.task-index 0 (kernel_of l.self) c.loop-task-test.true l.invariant.1.0).1

pub loop-task-preserved : goal.loop-task-preserved
loop-task-preserved g c =
    let l = c.loop-task in
    let t = turn_awoken c.as_slice-task-items.result.now l.task-index 0 (kernel_of l.self)
    (kernel_of c.becomes_ready.new.self) c.loop-task-test.true c.becomes_ready.ensures l.invariant.1.0 l.invariant.1.1 in
    (t.0 ∙ l.invariant.0, t.1)

pub returns : goal.returns
returns g c =
    let l = c.loop-task in
    let old = kernel_of c.args.self.now in
    let same : to_z w64 (of_z w64 c.args.time) ≡ c.args.time = search rules in
    all_woken old c.args.time c.as_slice-task-items.result.now l.task-index (kernel_of l.self)
    (kernel_of c.expire-tasks.new.self) c.loop-task-test.false l.invariant.0
    (c.as_slice-task-items.ensures.value ∙ (c.expire-tasks.ensures.tasks ∙ ap (λ n. due n old.sleepers) same))
    (c.expire-tasks.ensures.left ∙ ap (λ n. record old { now = n; sleepers = waiting n old.sleepers }) same)
