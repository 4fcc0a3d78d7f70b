use Rattle.std.proofs.Common.{◌≡◌, get_or, sym, ap, ◌∙◌, subst}
use Rattle.image.specs.Code.{initial_state}
use Rattle.processor.specs.Layout.{TaskRow}
use Rattle.execution.specs.Held.{row_of, task_at, tasks_in, tasks_of}
use Rattle.execution.specs.Settling.{RunsThere}
use Rattle.execution.proofs.RowsOf.{task_get}
use Rattle.execution.proofs.Tasks.{at_row, there_in}
use Rattle.execution.proofs.state.State.task.Goals as goal

pub returns : goal.returns
returns g c =
    let program = c.self.inside.program in
    let task = c.args.task in
    let start = initial_state program task in
    let t = subst (λ h. RunsThere h.image h.tasking.handler c.args.task) (sym c.self.view_is)
    (there_in _ c.args.self.now c.args.task _ c.self.view_is c.handler-handler.ensures.same c.handler-handler.ensures.running c.requires.whole.partition c.requires.runs.running) in
    let row = c.row-row.ensures ∙ ap (λ h. row_of h.image task) (sym c.self.view_is) in
    let rows = c.self.inside.tasks.items in
    let none : TaskRow = record { task = start; width = 0 } in
    let here : c.in-Some.state.now.task ≡ task_at program c.self.inside.tasking.handler (tasks_in rows) task =
    ap {A = TaskRow} (λ r. r.task) (c.in-Some.ensures.lookup.3.1 none ∙ ap (λ n. get_or c.deref.result.now n none) row
    ∙ ap (λ rs. get_or rs (row_of program task) none) c.deref.ensures.value)
    ∙ (task_get rows (row_of program task) none ∙ sym (at_row program c.self.inside.tasking.handler (tasks_in rows) task t.here)) in
    subst (λ h. c.in-Some.state.now.task ≡ tasks_of h task) c.self.view_is here
