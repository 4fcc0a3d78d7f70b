use Rattle.std.proofs.Common.{ap, ◌∙◌, arith}
use Rattle.image_laws.specs.Room.{widest}
use Rattle.execution.proofs.RowsOf.{body_rows}
use Rattle.execution.proofs.Starting.{all_begun}
use Rattle.execution.proofs.state.initial_tasks.Goals as goal

pub returns : goal.returns
returns c =
    let i = c.args.program.now in
    let bodies = c.tasks-bodies.result.now in
    let past = c.loop-task-test.false in
    all_begun i (widest i) c.loop-task.tasks.items bodies c.loop-task.task-index (omega (arith, past)) c.loop-task.invariant
    ∙ ap (body_rows i (widest i)) (c.tasks-bodies.ensures.same ∙ ap (λ j. j.tasks) c.image.ensures.same)
