use Rattle.std.proofs.Common.{◌≡◌, ◌<◌, ◌++◌, ◌∙◌, arith, length}
use Rattle.tasking.specs.Held.{kernel_of}
use Rattle.endings.specs.LastSteps.{waiting_if}
use Rattle.endings.proofs.Noted.{waiting_more}
use Rattle.endings.proofs.world_at_end.waiting_in.Goals as goal

pub loop-task-preserved : goal.loop-task-preserved
loop-task-preserved g c =
    let h = c.args.machine.now in
    let many : c.tasks-task-end.result ≡ length h.image.tasks = c.tasks-task-end.ensures.image in
    let less : c.loop-task.task < length h.image.tasks = omega (arith, many, c.loop-task-test.true) in
    waiting_more (kernel_of h.tasking).place c.args.lasts.now c.loop-task.waiting.items c.push_waiting.new.waiting.items c.loop-task.task (length h.image.tasks) _
    (omega (arith, less)) (λ e. omega (arith, less, e)) c.loop-task.invariant
    (c.in_ok-push_waiting.ensures
    ∙ (λ j. c.loop-task.waiting.items ++ waiting_if c.loop-task.task (c.place_of_actor-place.ensures j) (c.last_step.ensures j)))
