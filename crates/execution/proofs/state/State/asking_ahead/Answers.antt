use Rattle.std.proofs.Common.{◌≡◌, get_or, inr, sym, ap, ◌∙◌, subst}
use Rattle.image.specs.Code.{initial_state, partition_of}
use Rattle.image_laws.specs.Shape.{IsSound}
use Rattle.image_laws.specs.Whole.{IsWhole}
use Rattle.kernel.specs.Calm.{IsRunner}
use Rattle.kernel.specs.State.{is_task}
use Rattle.kernel.specs.Worlds.{solo_of}
use Rattle.processor.specs.Layout.{TaskRow}
use Rattle.task_steps.specs.Asked.{asking_ahead}
use Rattle.tasking.specs.Held.{kernel_of}
use Rattle.execution.specs.Held.{rest_of, row_of, task_at, tasks_in, world_of}
use Rattle.execution.specs.Settling.{RunsThere}
use Rattle.execution.proofs.RowsOf.{task_get}
use Rattle.execution.proofs.Tasks.{at_row, there_in}
use Rattle.execution.proofs.state.State.asking_ahead.Goals as goal

pub asking_ahead-requires-clause-task : goal.asking_ahead-requires-clause-task
asking_ahead-requires-clause-task g c =
    let runs = subst (λ h. IsRunner (kernel_of h.tasking) c.args.task) (sym c.self.view_is) c.requires.runs in
    inr runs.running

pub asking_ahead-requires-clause-sound : goal.asking_ahead-requires-clause-sound
asking_ahead-requires-clause-sound g c =
    let program = c.self.inside.program in
    let task = c.args.task in
    let start = initial_state program task in
    let whole = subst (λ h. IsWhole h.image (world_of h)) (sym c.self.view_is) c.requires.whole in
    let runs = subst (λ h. IsRunner (kernel_of h.tasking) task) (sym c.self.view_is) c.requires.runs in
    let sound = (c.steps_whole.ensures.runner program c.self.invariant.0 _ task whole runs.running).1 in
    let t = subst (λ h. RunsThere h.image h.tasking.handler c.args.task) (sym c.self.view_is)
    (there_in _ c.args.self.now c.args.task _ c.self.view_is c.handler-handler.ensures.same c.handler-handler.ensures.running c.requires.whole.partition c.requires.runs.running) in
    let row = c.row-row.ensures ∙ ap (λ h. row_of h.image task) (sym c.self.view_is) in
    let rows = c.self.inside.tasks.items in
    let none : TaskRow = record { task = start; width = 0 } in
    let here : c.in-Some.state.now.task ≡ task_at program c.self.inside.tasking.handler (tasks_in rows) task =
    ap {A = TaskRow} (λ r. r.task) (c.in-Some.ensures.lookup.3.1 none ∙ ap (λ n. get_or c.deref.result.now n none) row
    ∙ ap (λ rs. get_or rs (row_of program task) none) c.deref.ensures.value)
    ∙ (task_get rows (row_of program task) none ∙ sym (at_row program c.self.inside.tasking.handler (tasks_in rows) task t.here)) in
    subst (λ p. IsSound program (is_task p task) c.in-Some.state.now.task) (sym whole.partition) (subst (IsSound program (is_task (partition_of program) task)) (sym here) sound)

pub returns : goal.returns
returns g c = λ lines.
    let program = c.self.inside.program in
    let task = c.args.task in
    let start = initial_state program task in
    let k = kernel_of c.self.inside.tasking in
    let schedule = c.self.inside.schedule.now in
    let t = subst (λ h. RunsThere h.image h.tasking.handler c.args.task) (sym c.self.view_is)
    (there_in _ c.args.self.now c.args.task _ c.self.view_is c.handler-handler.ensures.same c.handler-handler.ensures.running c.requires.whole.partition c.requires.runs.running) in
    let row = c.row-row.ensures ∙ ap (λ h. row_of h.image task) (sym c.self.view_is) in
    let rows = c.self.inside.tasks.items in
    let none : TaskRow = record { task = start; width = 0 } in
    let here : c.in-Some.state.now.task ≡ task_at program c.self.inside.tasking.handler (tasks_in rows) task =
    ap {A = TaskRow} (λ r. r.task) (c.in-Some.ensures.lookup.3.1 none ∙ ap (λ n. get_or c.deref.result.now n none) row
    ∙ ap (λ rs. get_or rs (row_of program task) none) c.deref.ensures.value)
    ∙ (task_get rows (row_of program task) none ∙ sym (at_row program c.self.inside.tasking.handler (tasks_in rows) task t.here)) in
    subst (λ h. c.asking_ahead.result ≡ asking_ahead h.image h.schedule (record (kernel_of h.tasking) { lines = lines }) task (solo_of task (rest_of h)).task)
    c.self.view_is
    (c.asking_ahead.ensures ∙ ap (asking_ahead program schedule k task) here)
