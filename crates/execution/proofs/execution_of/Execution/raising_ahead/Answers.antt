use Rattle.std.proofs.Common.{None, sym, ap, ◌∙◌}
use Rattle.image.specs.Code.{CodeWorld}
use Rattle.kernel.specs.Worlds.{solo_of}
use Rattle.task_steps.specs.Raised.{raising_ahead}
use Rattle.tasking.specs.Held.{kernel_of}
use Rattle.execution.specs.Ahead.{raising_by}
use Rattle.execution.specs.Held.{HeldWorld, rest_of, world_with}
use Rattle.execution.proofs.execution_of.Execution.raising_ahead.Goals as goal

pub returns : goal.returns
returns g c = λ lines.
    let h : HeldWorld = c.args.self.now in
    let w : CodeWorld = world_with lines h in
    let task = c.in_ok-task.task in
    let runs = c.in_ok-task.ensures.runs in
    c.raising_ahead.ensures lines
    ∙ (ap {A = HeldWorld} (λ q. raising_ahead q.image q.schedule (record (kernel_of q.tasking) { lines = lines }) task (solo_of task (rest_of q))) c.state.ensures.same
    ∙ sym (ap (λ o. raising_by h.image h.schedule w o w.kernel.running) runs.on ∙ ap (raising_by h.image h.schedule w None) runs.running))
