use Rattle.std.proofs.Common.{None, sym, ap, ◌∙◌}
use Rattle.image.specs.Code.{CodeWorld}
use Rattle.kernel.specs.Worlds.{solo_of}
use Rattle.task_steps.specs.Asked.{asking_ahead}
use Rattle.tasking.specs.Held.{kernel_of}
use Rattle.execution.specs.Ahead.{asking_by}
use Rattle.execution.specs.Held.{HeldWorld, rest_of, world_with}
use Rattle.execution.proofs.execution_of.Execution.asking_ahead.Goals as goal

pub returns : goal.returns
returns g c = λ lines.
    let h : HeldWorld = c.args.self.now in
    let w : CodeWorld = world_with lines h in
    let task = c.in_ok-task.task in
    let runs = c.in_ok-task.ensures.runs in
    c.asking_ahead.ensures lines
    ∙ (ap {A = HeldWorld} (λ q. asking_ahead q.image q.schedule (record (kernel_of q.tasking) { lines = lines }) task (solo_of task (rest_of q)).task) c.state.ensures.same
    ∙ sym (ap (λ o. asking_by h.image h.schedule w o w.kernel.running) runs.on ∙ ap (asking_by h.image h.schedule w None) runs.running))
