use Rattle.std.proofs.Common.{◌≡◌, Some, get_or, length-set, sym, ap, ◌∙◌}
use Rattle.std.specs.Prelude.{slice_set}
use Rattle.image.specs.Code.{initial_state}
use Rattle.image.specs.Frames.{TaskState}
use Rattle.image.specs.Steps.{Raised, receives}
use Rattle.image_laws.specs.Room.{widest}
use Rattle.processor.specs.Layout.{TaskRow}
use Rattle.execution.specs.Held.{row_at, tasks_in}
use Rattle.execution.specs.Settling.{given_tasks}
use Rattle.execution.proofs.RowsOf.{task_get, task_set, wide_get, wide_set}
use Rattle.execution.proofs.Tasks.{task_row}
use Rattle.execution.proofs.state.State.gives_exception.Goals as goal

pub returns : goal.returns
returns g c =
    let now = c.args.self.now in
    let program = c.self.inside.program in
    let rows = c.self.inside.tasks.items in
    let caller = c.args.caller in
    let none : TaskRow = record { task = initial_state now.image caller; width = 0 } in
    let before : TaskState = row_at now.image now.tasks caller in
    let item = c.in-Some.ensures.item.3.1 none in
    let here : c.in-Some.state.now.task ≡ before =
    ap {A = TaskRow} (λ r. r.task) item
    ∙ (task_get rows c.from.result none
    ∙ (ap (λ n. get_or (tasks_in rows) n (initial_state now.image caller)) c.from.ensures
    ∙ (ap (λ h. get_or h.tasks caller (initial_state now.image caller)) c.self.view_is
    ∙ ap (λ n. get_or now.tasks n (initial_state now.image caller)) (sym (task_row now.image caller c.requires.caller))))) in
    let width : c.in-Some.state.now.width ≡ widest program =
    ap {A = TaskRow} (λ r. r.width) item ∙ wide_get (widest program) rows c.from.result none c.self.invariant.2 c.in-Some.ensures.item.3.0 in
    let done : c.set_raising.new.self.task ≡ receives (Raised c.args.exception) before =
    ap {A = TaskRow} (λ r. r.task) c.set_raising.ensures ∙ ap {A = TaskState} (λ s. record s { raising = Some c.args.exception }) here in
    let tasks : tasks_in (slice_set rows c.from.result c.set_raising.new.self) ≡ given_tasks now.image now.tasks caller (Some (Raised c.args.exception)) =
    task_set rows c.from.result c.set_raising.new.self ∙ (λ j. slice_set (c.self.view_is j).tasks (c.from.ensures j) (done j)) in
    λ j. record { image = (c.self.view_is j).image; schedule = (c.self.view_is j).schedule; memory = (c.self.view_is j).memory; tasks = tasks j; tasking = (c.self.view_is j).tasking }

pub invariant_of-self : goal.invariant_of-self
invariant_of-self g c =
    let now = c.args.self.now in
    let program = c.self.inside.program in
    let rows = c.self.inside.tasks.items in
    let caller = c.args.caller in
    let none : TaskRow = record { task = initial_state now.image caller; width = 0 } in
    let before : TaskState = row_at now.image now.tasks caller in
    let item = c.in-Some.ensures.item.3.1 none in
    let here : c.in-Some.state.now.task ≡ before =
    ap {A = TaskRow} (λ r. r.task) item
    ∙ (task_get rows c.from.result none
    ∙ (ap (λ n. get_or (tasks_in rows) n (initial_state now.image caller)) c.from.ensures
    ∙ (ap (λ h. get_or h.tasks caller (initial_state now.image caller)) c.self.view_is
    ∙ ap (λ n. get_or now.tasks n (initial_state now.image caller)) (sym (task_row now.image caller c.requires.caller))))) in
    let width : c.in-Some.state.now.width ≡ widest program =
    ap {A = TaskRow} (λ r. r.width) item ∙ wide_get (widest program) rows c.from.result none c.self.invariant.2 c.in-Some.ensures.item.3.0 in (
      c.self.invariant.0,
      length-set rows c.from.result c.set_raising.new.self ∙ c.self.invariant.1,
      wide_set (widest program) rows c.from.result c.set_raising.new.self c.self.invariant.2 (ap {A = TaskRow} (λ r. r.width) c.set_raising.ensures ∙ width),
    )
