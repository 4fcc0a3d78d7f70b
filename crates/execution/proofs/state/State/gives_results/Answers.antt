use Rattle.std.proofs.Common.{◌≡◌, ◌+◌, ◌++◌, Some, arith, get_or, length, length-set, sym, ap, ◌∙◌}
use Rattle.std.proofs.lemmas.Option.{same_Some}
use Rattle.std.specs.Prelude.{slice_set}
use Rattle.image.specs.Code.{initial_state}
use Rattle.image.specs.Frames.{TaskState}
use Rattle.image.specs.Steps.{Results, receives}
use Rattle.image_laws.specs.Room.{widest}
use Rattle.processor.specs.Layout.{TaskRow}
use Rattle.execution.specs.Held.{row_at, tasks_in}
use Rattle.execution.specs.Settling.{given_tasks, words_given}
use Rattle.execution.proofs.RowsOf.{task_get, task_set, wide_get, wide_set}
use Rattle.execution.proofs.Tasks.{task_row}
use Rattle.execution.proofs.state.State.gives_results.Goals as goal

-- the frame that waits has room for the results
pub push_results-requires : goal.push_results-requires
push_results-requires g c =
    let now = c.args.self.now in
    let program = c.self.inside.program in
    let rows = c.self.inside.tasks.items in
    let caller = c.args.caller in
    let none : TaskRow = record { task = initial_state now.image caller; width = 0 } in
    let before : TaskState = row_at now.image now.tasks caller in
    let item = c.in-Some.ensures.item.3.1 none in
    let here : c.in-Some.state.now.task ≡ before =
    ap {A = TaskRow} (λ r. r.task) item
    ∙ (task_get rows c.from.result none
    ∙ (ap (λ n. get_or (tasks_in rows) n (initial_state now.image caller)) c.from.ensures
    ∙ (ap (λ h. get_or h.tasks caller (initial_state now.image caller)) c.self.view_is
    ∙ ap (λ n. get_or now.tasks n (initial_state now.image caller)) (sym (task_row now.image caller c.requires.caller))))) in
    let width : c.in-Some.state.now.width ≡ widest program =
    ap {A = TaskRow} (λ r. r.width) item ∙ wide_get (widest program) rows c.from.result none c.self.invariant.2 c.in-Some.ensures.item.3.0 in
    let room = c.requires.room in
    let given = ap words_given (sym (same_Some _ _ c.requires.is)) in
    let words = ap length (c.passed.ensures ∙ ap (λ h. h.memory.passed) c.self.view_is) in
    let wide : c.in-Some.state.now.width ≡ widest now.image = width ∙ ap (λ h. widest h.image) c.self.view_is in
    let locals = ap (λ s. length s.frame.locals) here in
    let stack = ap (λ s. length s.frame.stack) here in
    omega (arith, room, given, words, wide, locals, stack)

pub returns : goal.returns
returns g c =
    let now = c.args.self.now in
    let program = c.self.inside.program in
    let rows = c.self.inside.tasks.items in
    let caller = c.args.caller in
    let none : TaskRow = record { task = initial_state now.image caller; width = 0 } in
    let before : TaskState = row_at now.image now.tasks caller in
    let item = c.in-Some.ensures.item.3.1 none in
    let here : c.in-Some.state.now.task ≡ before =
    ap {A = TaskRow} (λ r. r.task) item
    ∙ (task_get rows c.from.result none
    ∙ (ap (λ n. get_or (tasks_in rows) n (initial_state now.image caller)) c.from.ensures
    ∙ (ap (λ h. get_or h.tasks caller (initial_state now.image caller)) c.self.view_is
    ∙ ap (λ n. get_or now.tasks n (initial_state now.image caller)) (sym (task_row now.image caller c.requires.caller))))) in
    let width : c.in-Some.state.now.width ≡ widest program =
    ap {A = TaskRow} (λ r. r.width) item ∙ wide_get (widest program) rows c.from.result none c.self.invariant.2 c.in-Some.ensures.item.3.0 in
    let words = c.passed.ensures ∙ ap (λ h. h.memory.passed) c.self.view_is in
    let pushed : c.push_results.new.state.task ≡ record before { frame = record before.frame { stack = now.memory.passed ++ before.frame.stack } } =
    ap {A = TaskRow} (λ r. r.task) c.push_results.ensures
    ∙ (λ j. record (here j) { frame = record (here j).frame { stack = words j ++ (here j).frame.stack } }) in
    let done : c.advance.new.self.task ≡ receives (Results now.memory.passed) before =
    ap {A = TaskRow} (λ r. r.task) c.advance.ensures
    ∙ ap {A = TaskState} (λ s. record s { frame = record s.frame { place = s.frame.place + 1 } }) pushed in
    let tasks : tasks_in (slice_set rows c.from.result c.advance.new.self) ≡ given_tasks now.image now.tasks caller (Some (Results now.memory.passed)) =
    task_set rows c.from.result c.advance.new.self ∙ (λ j. slice_set (c.self.view_is j).tasks (c.from.ensures j) (done j)) in
    λ j. record { image = (c.self.view_is j).image; schedule = (c.self.view_is j).schedule; memory = (c.self.view_is j).memory; tasks = tasks j; tasking = (c.self.view_is j).tasking }

pub invariant_of-self : goal.invariant_of-self
invariant_of-self g c =
    let now = c.args.self.now in
    let program = c.self.inside.program in
    let rows = c.self.inside.tasks.items in
    let caller = c.args.caller in
    let none : TaskRow = record { task = initial_state now.image caller; width = 0 } in
    let before : TaskState = row_at now.image now.tasks caller in
    let item = c.in-Some.ensures.item.3.1 none in
    let here : c.in-Some.state.now.task ≡ before =
    ap {A = TaskRow} (λ r. r.task) item
    ∙ (task_get rows c.from.result none
    ∙ (ap (λ n. get_or (tasks_in rows) n (initial_state now.image caller)) c.from.ensures
    ∙ (ap (λ h. get_or h.tasks caller (initial_state now.image caller)) c.self.view_is
    ∙ ap (λ n. get_or now.tasks n (initial_state now.image caller)) (sym (task_row now.image caller c.requires.caller))))) in
    let width : c.in-Some.state.now.width ≡ widest program =
    ap {A = TaskRow} (λ r. r.width) item ∙ wide_get (widest program) rows c.from.result none c.self.invariant.2 c.in-Some.ensures.item.3.0 in (
      c.self.invariant.0,
      length-set rows c.from.result c.advance.new.self ∙ c.self.invariant.1,
      wide_set (widest program) rows c.from.result c.advance.new.self c.self.invariant.2 (ap {A = TaskRow} (λ r. r.width) c.advance.ensures ∙ (ap {A = TaskRow} (λ r. r.width) c.push_results.ensures ∙ width)),
    )
