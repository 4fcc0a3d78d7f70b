use Rattle.std.proofs.Common.{◌≡◌, ◌<◌, length, length-set, get_or, inr, refl, sym, ap, ◌∙◌, subst}
use Rattle.std.specs.Prelude.{slice_set}
use Rattle.image.specs.Code.{initial_state, partition_of}
use Rattle.image_laws.specs.Room.{widest}
use Rattle.image_laws.specs.Shape.{IsSound}
use Rattle.image_laws.specs.Whole.{IsWhole}
use Rattle.kernel.specs.Calm.{IsRunner}
use Rattle.kernel.specs.State.{is_task}
use Rattle.processor.specs.Layout.{TaskRow}
use Rattle.task_steps.specs.Acting.{ComesToAct, solo_in}
use Rattle.tasking.specs.Held.{kernel_of}
use Rattle.execution.specs.Held.{row_of, task_at, tasks_in, tasks_of, world_of}
use Rattle.execution.specs.Settling.{RunsThere}
use Rattle.execution.proofs.RowsOf.{task_get, task_set, tasks_count, wide_get, wide_set}
use Rattle.execution.proofs.Tasks.{at_row, task_there, there_in}
use Rattle.execution.proofs.state.State.go.Goals as goal

pub go-requires-clause-task : goal.go-requires-clause-task
go-requires-clause-task g c =
    let runs = subst (λ h. IsRunner (kernel_of h.tasking) c.args.task) (sym c.self.view_is) c.requires.runs in
    inr runs.running

pub go-requires-clause-objects : goal.go-requires-clause-objects
go-requires-clause-objects g c =
    let whole = subst (λ h. IsWhole h.image (world_of h)) (sym c.self.view_is) c.requires.whole in
    ap (λ p. p.objects) whole.partition

pub go-requires-clause-sound : goal.go-requires-clause-sound
go-requires-clause-sound g c =
    let program = c.self.inside.program in
    let task = c.args.task in
    let whole = subst (λ h. IsWhole h.image (world_of h)) (sym c.self.view_is) c.requires.whole in
    let runs = subst (λ h. IsRunner (kernel_of h.tasking) task) (sym c.self.view_is) c.requires.runs in
    let sound = (c.steps_whole.ensures.runner program c.self.invariant.0 _ task whole runs.running).1 in
    let t = subst (λ h. RunsThere h.image h.tasking.handler c.args.task) (sym c.self.view_is)
    (there_in _ c.args.self.now c.args.task _ c.self.view_is c.handler-handler.ensures.same c.handler-handler.ensures.running c.requires.whole.partition c.requires.runs.running) in
    let row = c.row-row.ensures ∙ ap (λ h. row_of h.image task) (sym c.self.view_is) in
    let rows = c.self.inside.tasks.items in
    let none : TaskRow = record { task = initial_state program task; width = 0 } in
    let here : c.in-Some.state.now.task ≡ task_at program c.self.inside.tasking.handler (tasks_in rows) task =
    ap {A = TaskRow} (λ r. r.task) (c.in-Some.ensures.item.3.1 none)
    ∙ (task_get rows c.row-row.result none ∙ (ap (λ n. get_or (tasks_in rows) n (initial_state program task)) row
    ∙ sym (at_row program c.self.inside.tasking.handler (tasks_in rows) task t.here))) in
    subst (λ p. IsSound program (is_task p task) c.in-Some.state.now.task) (sym whole.partition) (subst (IsSound program (is_task (partition_of program) task)) (sym here) sound)

-- the row of a task has the width of all rows
pub go-requires-clause-width : goal.go-requires-clause-width
go-requires-clause-width g c =
    let program = c.self.inside.program in
    let none : TaskRow = record { task = initial_state program c.args.task; width = 0 } in
    ap {A = TaskRow} (λ r. r.width) (c.in-Some.ensures.item.3.1 none)
    ∙ wide_get (widest program) c.self.inside.tasks.items c.row-row.result none c.self.invariant.2 c.in-Some.ensures.item.3.0

pub returns-clause-there : goal.returns-clause-there
returns-clause-there g c =
    there_in _ c.args.self.now c.args.task _ c.self.view_is c.handler-handler.ensures.same c.handler-handler.ensures.running c.requires.whole.partition c.requires.runs.running

pub returns-clause-went : goal.returns-clause-went
returns-clause-went g c =
    let program = c.self.inside.program in
    let task = c.args.task in
    let rows = c.self.inside.tasks.items in
    let handler = c.self.inside.tasking.handler in
    let whole = subst (λ h. IsWhole h.image (world_of h)) (sym c.self.view_is) c.requires.whole in
    let runs = subst (λ h. IsRunner (kernel_of h.tasking) task) (sym c.self.view_is) c.requires.runs in
    let calm = c.runner_is_calm.ensures _ (kernel_of c.self.inside.tasking) task whole.kept runs in
    let row = c.row-row.ensures ∙ ap (λ h. row_of h.image task) (sym c.self.view_is) in
    let t = subst (λ h. RunsThere h.image h.tasking.handler c.args.task) (sym c.self.view_is)
    (there_in _ c.args.self.now c.args.task _ c.self.view_is c.handler-handler.ensures.same c.handler-handler.ensures.running c.requires.whole.partition c.requires.runs.running) in
    let none : TaskRow = record { task = initial_state program task; width = 0 } in
    let here : c.in-Some.state.now.task ≡ task_at program handler (tasks_in rows) task =
    ap {A = TaskRow} (λ r. r.task) (c.in-Some.ensures.item.3.1 none)
    ∙ (task_get rows c.row-row.result none ∙ (ap (λ n. get_or (tasks_in rows) n (initial_state program task)) row ∙ sym (at_row program handler (tasks_in rows) task t.here))) in
    let moved = slice_set rows c.row-row.result c.go.new.state in
    let set = task_set rows c.row-row.result c.go.new.state in
    let inside : row_of program task < length (tasks_in rows) = subst (λ n. row_of program task < n) (sym (tasks_count rows)) (subst (λ r. r < length rows) row c.in-Some.ensures.item.3.0) in
    let later : c.go.new.state.task ≡ task_at program handler (tasks_in moved) task =
    sym (ap (λ l. task_at program handler l task) set
    ∙ (ap (λ r. task_at program handler (slice_set (tasks_in rows) r c.go.new.state.task) task) row
    ∙ task_there program handler (tasks_in rows) t.beyond task t.here c.go.new.state.task inside task refl)) in
    let went = c.go.ensures.went calm in
    subst
    (λ h. ComesToAct h.image h.schedule (kernel_of h.tasking) task c.args.limit c.go.result.left (solo_in h.image h.memory (tasks_of h task)) c.go.result.act c.go.new.memory
    (task_at program handler (tasks_in moved) task))
    c.self.view_is
    (subst (λ s. ComesToAct program c.self.inside.schedule.now (kernel_of c.self.inside.tasking) task c.args.limit c.go.result.left (solo_in program c.self.inside.memory s) c.go.result.act
    c.go.new.memory (task_at program handler (tasks_in moved) task)) here
    (subst (λ s. ComesToAct program c.self.inside.schedule.now (kernel_of c.self.inside.tasking) task c.args.limit c.go.result.left
    (solo_in program c.self.inside.memory c.in-Some.state.now.task) c.go.result.act c.go.new.memory s) later went))

pub returns-clause-moved : goal.returns-clause-moved
returns-clause-moved g c =
    let program = c.self.inside.program in
    let task = c.args.task in
    let rows = c.self.inside.tasks.items in
    let handler = c.self.inside.tasking.handler in
    let row = c.row-row.ensures ∙ ap (λ h. row_of h.image task) (sym c.self.view_is) in
    let t = subst (λ h. RunsThere h.image h.tasking.handler c.args.task) (sym c.self.view_is)
    (there_in _ c.args.self.now c.args.task _ c.self.view_is c.handler-handler.ensures.same c.handler-handler.ensures.running c.requires.whole.partition c.requires.runs.running) in
    let moved = slice_set rows c.row-row.result c.go.new.state in
    let set = task_set rows c.row-row.result c.go.new.state in
    let inside : row_of program task < length (tasks_in rows) = subst (λ n. row_of program task < n) (sym (tasks_count rows)) (subst (λ r. r < length rows) row c.in-Some.ensures.item.3.0) in
    let later : c.go.new.state.task ≡ task_at program handler (tasks_in moved) task =
    sym (ap (λ l. task_at program handler l task) set
    ∙ (ap (λ r. task_at program handler (slice_set (tasks_in rows) r c.go.new.state.task) task) row
    ∙ task_there program handler (tasks_in rows) t.beyond task t.here c.go.new.state.task inside task refl)) in
    λ j. record {
      image = (c.self.view_is j).image;
      schedule = (c.self.view_is j).schedule;
      memory = c.go.new.memory;
      tasks = (set ∙ (λ k. slice_set (c.self.view_is k).tasks (c.row-row.ensures k) (later k))) j;
      tasking = (c.self.view_is j).tasking;
    }

pub invariant_of-self : goal.invariant_of-self
invariant_of-self g c =
    let program = c.self.inside.program in
    let rows = c.self.inside.tasks.items in
    let none : TaskRow = record { task = initial_state program c.args.task; width = 0 } in
    let width = c.go.ensures.width
    ∙ (ap {A = TaskRow} (λ r. r.width) (c.in-Some.ensures.item.3.1 none) ∙ wide_get (widest program) rows c.row-row.result none c.self.invariant.2 c.in-Some.ensures.item.3.0) in
    (c.self.invariant.0, length-set rows c.row-row.result c.go.new.state ∙ c.self.invariant.1, wide_set (widest program) rows c.row-row.result c.go.new.state c.self.invariant.2 width)
