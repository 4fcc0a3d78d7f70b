use Rattle.std.proofs.Common.{[], ◌∷◌, ◌<◌, ◌∙◌, arith, sym}
use Rattle.tasking.specs.Held.{kernel_of}
use Rattle.waveforms.specs.Instants.{waiting}
use Rattle.waveforms.specs.Signals.{task_values}
use Rattle.waveforms.proofs.Added.{one_added}
use Rattle.waveforms.proofs.Waiting.{priority_before}
use Rattle.waveforms.proofs.before_clock.add_tasks.Goals as goal

pub loop-task-preserved : goal.loop-task-preserved
loop-task-preserved g c =
    let k = kernel_of c.args.machine.now.tasking in
    let test = c.loop-task-test.true in
    let kernel = c.tasks-task-end.ensures.kernel in
    let less : c.loop-task.task < k.partition.tasks = omega (arith, test, kernel) in
    let state = c.state_before.ensures in
    let priority = c.from-priority.ensures ∙ c.active_of_actor.ensures ∙ sym (priority_before k c.loop-task.task less) in (
      one_added _ _ _ (task_values (waiting k)) c.loop-task.task _ c.loop-task.invariant.0 c.add_two.ensures.items (λ j. state j ∷ priority j ∷ []),
      omega (arith, c.add_two.ensures.len, c.loop-task.invariant.1),
      c.add_two.ensures.capacity ∙ c.loop-task.invariant.2,
    )
