use Rattle.std.proofs.Common.{◌≡◌, ◌++◌, drop}
use Rattle.image_laws.specs.Room.{widest}
use Rattle.execution.proofs.RowsOf.{body_rows}
use Rattle.execution.proofs.state.initial_tasks.Given as goal

abbrev pub invariant-loop-task : goal.invariant-loop-task
invariant-loop-task l =
    l.tasks.items ++ body_rows l.program (widest l.program) (drop l.task-index l.bodies) ≡ body_rows l.program (widest l.program) l.bodies
