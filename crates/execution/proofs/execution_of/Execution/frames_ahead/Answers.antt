use Rattle.std.proofs.Common.{None, Some, sym, ap, ◌∙◌}
use Rattle.image.specs.Code.{CodeWorld}
use Rattle.execution.specs.Ahead.{frame_use, frames_by}
use Rattle.execution.specs.Held.{HeldWorld, tasks_of, world_of}
use Rattle.execution.proofs.execution_of.Execution.frames_ahead.Goals as goal

pub returns : goal.returns
returns g c =
    let h : HeldWorld = c.args.self.now in
    let w : CodeWorld = world_of h in
    let task = c.in_ok-task.task in
    let runs = c.in_ok-task.ensures.runs in
    ap Some (c.frames.ensures ∙ ap {A = HeldWorld} (λ q. frame_use (tasks_of q task)) c.state.ensures.same)
    ∙ sym (ap (λ o. frames_by w.rest.tasks o w.kernel.running) runs.on ∙ ap (frames_by w.rest.tasks None) runs.running)
