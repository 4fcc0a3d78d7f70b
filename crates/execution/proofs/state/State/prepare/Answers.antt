use Rattle.std.proofs.Common.{◌≡◌, ◌-◌, ◌≤◌, cond, length, length-set, subst, sym, ap, ◌∙◌}
use Rattle.std.proofs.lemmas.Bool.{le-ltb}
use Rattle.std.specs.Prelude.{slice_set}
use Rattle.image.specs.Code.{initial_state}
use Rattle.image.specs.Starting.{handler_state, task_state}
use Rattle.image_laws.specs.Room.{widest}
use Rattle.processor.specs.Layout.{TaskRow}
use Rattle.tasking.specs.Held.{kernel_of}
use Rattle.execution.specs.Held.{HeldWorld, row_of, tasks_in}
use Rattle.execution.proofs.RowsOf.{task_set, wide_get, wide_set}
use Rattle.execution.proofs.Tasks.{beyond_row}
use Rattle.execution.proofs.state.State.prepare.Goals as goal

-- the last row has the number of tasks
pub returns : goal.returns
returns g c =
    let program = c.self.inside.program in
    let a = c.args.handler in
    let n = length program.tasks in
    let le = subst (λ h. length h.image.tasks ≤ a) (sym c.self.view_is) c.requires.beyond in
    let count = subst (λ h. (kernel_of h.tasking).partition.tasks ≡ length h.image.tasks) (sym c.self.view_is) c.requires.count in
    let rows = c.self.inside.tasks.items in
    let start : c.begin_handler.new.state.task ≡ initial_state program a =
    c.begin_handler.ensures.task
    ∙ (ap (handler_state program) (ap (λ k. a - k) (c.task_count.ensures.same ∙ count))
    ∙ sym (ap (λ b. cond b (task_state program a) (handler_state program (a - n))) (le-ltb a n le))) in
    let last : c.row-row.result ≡ n = c.row-row.ensures ∙ (ap (λ h. row_of h.image a) (sym c.self.view_is) ∙ beyond_row program a le) in
    let tasks : tasks_in (slice_set rows c.row-row.result c.begin_handler.new.state) ≡ slice_set (tasks_in rows) n (initial_state program a) =
    task_set rows c.row-row.result c.begin_handler.new.state ∙ (λ j. slice_set (tasks_in rows) (last j) (start j)) in
    (λ j. record { image = program; schedule = c.self.inside.schedule.now; memory = c.self.inside.memory; tasks = tasks j; tasking = c.self.inside.tasking })
    ∙ ap {A = HeldWorld} (λ h. record h { tasks = slice_set h.tasks (length h.image.tasks) (initial_state h.image a) }) c.self.view_is

-- its row keeps its width
pub begin_handler-requires : goal.begin_handler-requires
begin_handler-requires g c =
    let program = c.self.inside.program in
    let rows = c.self.inside.tasks.items in
    let none : TaskRow = record { task = initial_state program c.args.handler; width = 0 } in
    let width : c.in-Some.state.now.width ≡ widest program =
    ap {A = TaskRow} (λ r. r.width) (c.in-Some.ensures.item.3.1 none) ∙ wide_get (widest program) rows c.row-row.result none c.self.invariant.2 c.in-Some.ensures.item.3.0 in
    width

pub invariant_of-self : goal.invariant_of-self
invariant_of-self g c =
    let program = c.self.inside.program in
    let rows = c.self.inside.tasks.items in
    let none : TaskRow = record { task = initial_state program c.args.handler; width = 0 } in
    let width : c.in-Some.state.now.width ≡ widest program =
    ap {A = TaskRow} (λ r. r.width) (c.in-Some.ensures.item.3.1 none) ∙ wide_get (widest program) rows c.row-row.result none c.self.invariant.2 c.in-Some.ensures.item.3.0 in (
      c.self.invariant.0,
      length-set rows c.row-row.result c.begin_handler.new.state ∙ c.self.invariant.1,
      wide_set (widest program) rows c.row-row.result c.begin_handler.new.state c.self.invariant.2 (c.begin_handler.ensures.width ∙ width),
    )
