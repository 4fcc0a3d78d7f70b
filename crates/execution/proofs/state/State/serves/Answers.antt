use Rattle.std.proofs.Common.{◌≡◌, ◌++◌, ◌-◌, ◌<◌, ◌≤◌, [], Some, arith, get_or, get_or-set_other, length, length-set, pos, replicate, rules, subst, sym, take, ap, ◌∙◌}
use Rattle.std.proofs.lemmas.List.{length-reverse, length-take-le}
use Rattle.std.proofs.lemmas.Option.{same_Some}
use Rattle.std.specs.Prelude.{slice_get, slice_set}
use Rattle.base.specs.declared.limits.TheConstants.{FRAMES}
use Rattle.image.specs.Code.{initial_state}
use Rattle.image.specs.Frames.{Serving, TaskState, arguments}
use Rattle.image.specs.Operations.{called, entry_of}
use Rattle.image.specs.Rules.{IsWellFormed}
use Rattle.image.specs.Sections.{first_place}
use Rattle.image_laws.specs.Room.{widest}
use Rattle.processor.specs.Layout.{TaskRow}
use Rattle.execution.specs.Held.{RowsAreWide, row_at, row_of, tasks_in}
use Rattle.execution.specs.Settling.{served_tasks, without}
use Rattle.execution.proofs.RowsOf.{task_get, task_set, wide_get, wide_set}
use Rattle.execution.proofs.ServedFrame.{served_is, served_tasks_are}
use Rattle.execution.proofs.Tasks.{row_apart, task_row}
use Rattle.execution.proofs.state.State.serves.Goals as goal

pub returns : goal.returns
returns g c =
    let now = c.args.self.now in
    let task = c.args.task in
    let caller = c.args.caller in
    let number = c.in-Some.number in
    let s = c.in-Some-called.subprogram in
    let found : entry_of (slice_get c.self.inside.program.objects c.from.result) ≡ Some number = search rules in
    let found_called : called c.self.inside.program number ≡ Some s = search rules in
    let entry : entry_of (slice_get now.image.objects c.args.object) ≡ Some number =
    ap (λ h. entry_of (slice_get h.image.objects c.args.object)) (sym c.self.view_is)
    ∙ (ap (λ o. entry_of (slice_get c.self.inside.program.objects o)) (sym c.from.ensures) ∙ found) in
    let is_called : called now.image number ≡ Some s = ap (λ h. called h.image number) (sym c.self.view_is) ∙ found_called in
    let place = c.first_place-place.ensures ∙ ap (λ h. first_place h.image number) c.self.view_is in
    let caller_row : row_of now.image caller ≡ caller = task_row now.image caller c.requires.caller in
    let before : TaskState = row_at now.image now.tasks caller in
    let rows = c.self.inside.tasks.items in
    let no_caller : TaskRow = record { task = initial_state now.image caller; width = 0 } in
    let waiting : c.in-Some-get_mut.waiting.now.task ≡ before =
    ap {A = TaskRow} (λ r. r.task) (c.in-Some-get_mut.ensures.item.3.1 no_caller)
    ∙ (task_get rows c.from-2.result no_caller
    ∙ (ap (λ n. get_or (tasks_in rows) n (initial_state now.image caller)) c.from-2.ensures
    ∙ (ap (λ h. get_or h.tasks caller (initial_state now.image caller)) c.self.view_is
    ∙ ap (λ n. get_or now.tasks n (initial_state now.image caller)) (sym caller_row)))) in
    let words = c.words.ensures ∙ (c.keep.ensures ∙ (c.top.ensures ∙ ap (λ v. arguments s.parameters v.frame.stack) waiting)) in
    let left : c.drop_top.new.self.task ≡ without s.parameters before = ap {A = TaskRow} (λ r. r.task) c.drop_top.ensures ∙ ap (without s.parameters) waiting in
    let dropped = slice_set rows c.from-2.result c.drop_top.new.self in
    let taken : tasks_in dropped ≡ slice_set now.tasks caller (without s.parameters before) =
    task_set rows c.from-2.result c.drop_top.new.self ∙ (λ k. slice_set (c.self.view_is k).tasks (c.from-2.ensures k) (left k)) in
    let row : c.row-row.result ≡ row_of now.image task = c.row-row.ensures in
    let no_server : TaskRow = record { task = initial_state now.image task; width = 0 } in
    let server : c.in-Some-get_mut-2.server.now.task ≡ row_at now.image now.tasks task =
    ap {A = TaskRow} (λ r. r.task) (c.in-Some-get_mut-2.ensures.item.3.1 no_server)
    ∙ (task_get dropped c.row-row.result no_server
    ∙ ((λ k. get_or (taken k) (row k) (initial_state now.image task))
    ∙ get_or-set_other now.tasks caller (row_of now.image task) (without s.parameters before) (initial_state now.image task)
    (row_apart now.image task caller c.requires.caller c.requires.other))) in
    let frame =
    c.serve.ensures.frame
    ∙ (λ k. record {
      subprogram = number;
      place = c.first_place-place.result;
      locals = c.words.result.now ++ replicate (s.locals - s.parameters) (pos 0);
      stack = [];
      role = Serving (c.from-3.ensures k) caller (c.raising.ensures k);
    }) in
    let served =
    served_is now.image c.args.object number s entry is_called caller c.first_place-place.result before (row_at now.image now.tasks task) c.in-Some-get_mut-2.server.now.task c.serve.new.self.task c.words.result.now server place
    words frame c.serve.ensures.callers c.serve.ensures.raising in
    let tasks : tasks_in (slice_set dropped c.row-row.result c.serve.new.self) ≡ served_tasks now.image now.tasks task c.args.object caller =
    task_set dropped c.row-row.result c.serve.new.self
    ∙ ((λ k. slice_set (taken k) (row k) c.serve.new.self.task) ∙ served_tasks_are now.image c.args.object number s entry is_called now.tasks task caller c.serve.new.self.task served) in
    λ j. record { image = (c.self.view_is j).image; schedule = (c.self.view_is j).schedule; memory = (c.self.view_is j).memory; tasks = tasks j; tasking = (c.self.view_is j).tasking }

-- the rows keep their width
pub serve-requires-clause-room : goal.serve-requires-clause-room
serve-requires-clause-room g c =
    let program = c.self.inside.program in
    let rows = c.self.inside.tasks.items in
    let none : TaskRow = record { task = initial_state program c.args.caller; width = 0 } in
    let wide = c.self.invariant.2 in
    let dropped = slice_set rows c.from-2.result c.drop_top.new.self in
    let left : c.drop_top.new.self.width ≡ widest program =
    ap {A = TaskRow} (λ r. r.width) c.drop_top.ensures
    ∙ (ap {A = TaskRow} (λ r. r.width) (c.in-Some-get_mut.ensures.item.3.1 none) ∙ wide_get (widest program) rows c.from-2.result none wide c.in-Some-get_mut.ensures.item.3.0) in
    let still : RowsAreWide (widest program) dropped = wide_set (widest program) rows c.from-2.result c.drop_top.new.self wide left in
    let width : c.in-Some-get_mut-2.server.now.width ≡ widest program =
    ap {A = TaskRow} (λ r. r.width) (c.in-Some-get_mut-2.ensures.item.3.1 none)
    ∙ wide_get (widest program) dropped c.row-row.result none still c.in-Some-get_mut-2.ensures.item.3.0 in
    let room : c.in-Some-called.subprogram.locals ≤ widest program = search rules in
    omega (arith, room, width)

pub invariant_of-self : goal.invariant_of-self
invariant_of-self g c =
    let program = c.self.inside.program in
    let rows = c.self.inside.tasks.items in
    let none : TaskRow = record { task = initial_state program c.args.caller; width = 0 } in
    let wide = c.self.invariant.2 in
    let dropped = slice_set rows c.from-2.result c.drop_top.new.self in
    let left : c.drop_top.new.self.width ≡ widest program =
    ap {A = TaskRow} (λ r. r.width) c.drop_top.ensures
    ∙ (ap {A = TaskRow} (λ r. r.width) (c.in-Some-get_mut.ensures.item.3.1 none) ∙ wide_get (widest program) rows c.from-2.result none wide c.in-Some-get_mut.ensures.item.3.0) in
    let still : RowsAreWide (widest program) dropped = wide_set (widest program) rows c.from-2.result c.drop_top.new.self wide left in
    let width : c.in-Some-get_mut-2.server.now.width ≡ widest program =
    ap {A = TaskRow} (λ r. r.width) (c.in-Some-get_mut-2.ensures.item.3.1 none)
    ∙ wide_get (widest program) dropped c.row-row.result none still c.in-Some-get_mut-2.ensures.item.3.0 in (
      c.self.invariant.0,
      length-set dropped c.row-row.result c.serve.new.self ∙ (length-set rows c.from-2.result c.drop_top.new.self ∙ c.self.invariant.1),
      wide_set (widest program) dropped c.row-row.result c.serve.new.self still (c.serve.ensures.width ∙ width),
    )

-- the parameters are as many as the entry has
pub keep-requires : goal.keep-requires
keep-requires g c =
    let now = c.args.self.now in
    let s = c.in-Some-called.subprogram in
    let number = c.in-Some.number in
    let found : entry_of (slice_get c.self.inside.program.objects c.from.result) ≡ Some number = search rules in
    let found_called : called c.self.inside.program number ≡ Some s = search rules in
    let entry : entry_of (slice_get now.image.objects c.args.object) ≡ Some number =
    ap (λ h. entry_of (slice_get h.image.objects c.args.object)) (sym c.self.view_is)
    ∙ (ap (λ o. entry_of (slice_get c.self.inside.program.objects o)) (sym c.from.ensures) ∙ found) in
    let is_called : called now.image number ≡ Some s = ap (λ h. called h.image number) (sym c.self.view_is) ∙ found_called in
    let same_number : c.requires.n ≡ number = same_Some _ _ (sym c.requires.entry ∙ entry) in
    let same : c.requires.s ≡ s = same_Some _ _ (sym c.requires.is_called ∙ (ap (called now.image) same_number ∙ is_called)) in
    let rows = c.self.inside.tasks.items in
    let caller = c.args.caller in
    let before : TaskState = row_at now.image now.tasks caller in
    let no_caller : TaskRow = record { task = initial_state now.image caller; width = 0 } in
    let waiting : c.in-Some-get_mut.waiting.now.task ≡ before =
    ap {A = TaskRow} (λ r. r.task) (c.in-Some-get_mut.ensures.item.3.1 no_caller)
    ∙ (task_get rows c.from-2.result no_caller
    ∙ (ap (λ n. get_or (tasks_in rows) n (initial_state now.image caller)) c.from-2.ensures
    ∙ (ap (λ h. get_or h.tasks caller (initial_state now.image caller)) c.self.view_is
    ∙ ap (λ n. get_or now.tasks n (initial_state now.image caller)) (sym (task_row now.image caller c.requires.caller))))) in
    let enough : s.parameters ≤ length c.in-Some-get_mut.waiting.now.task.frame.stack =
    subst (λ v. s.parameters ≤ length v.frame.stack) (sym waiting) (subst (λ v. v.parameters ≤ length before.frame.stack) same c.requires.there) in
    let words : length c.top.result.now ≡ s.parameters =
    ap length c.top.ensures ∙ (length-reverse (take s.parameters c.in-Some-get_mut.waiting.now.task.frame.stack) ∙ length-take-le s.parameters c.in-Some-get_mut.waiting.now.task.frame.stack enough) in
    let fits = subst (λ v. v.parameters ≤ v.locals) same c.requires.fits in
    let room : s.locals ≤ widest now.image = subst (λ v. v.locals ≤ widest now.image) same c.requires.room in
    let narrow = (c.code_leads_on.ensures.size now.image (subst (λ h. IsWellFormed h.image) c.self.view_is c.self.invariant.0)).wide in
    omega (arith, words, fits, room, narrow)

pub serve-requires-clause-there : goal.serve-requires-clause-there
serve-requires-clause-there g c =
    let now = c.args.self.now in
    let s = c.in-Some-called.subprogram in
    let number = c.in-Some.number in
    let found : entry_of (slice_get c.self.inside.program.objects c.from.result) ≡ Some number = search rules in
    let found_called : called c.self.inside.program number ≡ Some s = search rules in
    let entry : entry_of (slice_get now.image.objects c.args.object) ≡ Some number =
    ap (λ h. entry_of (slice_get h.image.objects c.args.object)) (sym c.self.view_is)
    ∙ (ap (λ o. entry_of (slice_get c.self.inside.program.objects o)) (sym c.from.ensures) ∙ found) in
    let is_called : called now.image number ≡ Some s = ap (λ h. called h.image number) (sym c.self.view_is) ∙ found_called in
    let same_number : c.requires.n ≡ number = same_Some _ _ (sym c.requires.entry ∙ entry) in
    let same : c.requires.s ≡ s = same_Some _ _ (sym c.requires.is_called ∙ (ap (called now.image) same_number ∙ is_called)) in
    let rows = c.self.inside.tasks.items in
    let caller = c.args.caller in
    let before : TaskState = row_at now.image now.tasks caller in
    let no_caller : TaskRow = record { task = initial_state now.image caller; width = 0 } in
    let waiting : c.in-Some-get_mut.waiting.now.task ≡ before =
    ap {A = TaskRow} (λ r. r.task) (c.in-Some-get_mut.ensures.item.3.1 no_caller)
    ∙ (task_get rows c.from-2.result no_caller
    ∙ (ap (λ n. get_or (tasks_in rows) n (initial_state now.image caller)) c.from-2.ensures
    ∙ (ap (λ h. get_or h.tasks caller (initial_state now.image caller)) c.self.view_is
    ∙ ap (λ n. get_or now.tasks n (initial_state now.image caller)) (sym (task_row now.image caller c.requires.caller))))) in
    let enough : s.parameters ≤ length c.in-Some-get_mut.waiting.now.task.frame.stack =
    subst (λ v. s.parameters ≤ length v.frame.stack) (sym waiting) (subst (λ v. v.parameters ≤ length before.frame.stack) same c.requires.there) in
    let words : length c.top.result.now ≡ s.parameters =
    ap length c.top.ensures ∙ (length-reverse (take s.parameters c.in-Some-get_mut.waiting.now.task.frame.stack) ∙ length-take-le s.parameters c.in-Some-get_mut.waiting.now.task.frame.stack enough) in
    ap length (c.words.ensures ∙ c.keep.ensures) ∙ words

pub serve-requires-clause-left : goal.serve-requires-clause-left
serve-requires-clause-left g c =
    let now = c.args.self.now in
    let task = c.args.task in
    let caller = c.args.caller in
    let number = c.in-Some.number in
    let s = c.in-Some-called.subprogram in
    let found : entry_of (slice_get c.self.inside.program.objects c.from.result) ≡ Some number = search rules in
    let found_called : called c.self.inside.program number ≡ Some s = search rules in
    let entry : entry_of (slice_get now.image.objects c.args.object) ≡ Some number =
    ap (λ h. entry_of (slice_get h.image.objects c.args.object)) (sym c.self.view_is)
    ∙ (ap (λ o. entry_of (slice_get c.self.inside.program.objects o)) (sym c.from.ensures) ∙ found) in
    let is_called : called now.image number ≡ Some s = ap (λ h. called h.image number) (sym c.self.view_is) ∙ found_called in
    let place = c.first_place-place.ensures ∙ ap (λ h. first_place h.image number) c.self.view_is in
    let caller_row : row_of now.image caller ≡ caller = task_row now.image caller c.requires.caller in
    let before : TaskState = row_at now.image now.tasks caller in
    let rows = c.self.inside.tasks.items in
    let no_caller : TaskRow = record { task = initial_state now.image caller; width = 0 } in
    let waiting : c.in-Some-get_mut.waiting.now.task ≡ before =
    ap {A = TaskRow} (λ r. r.task) (c.in-Some-get_mut.ensures.item.3.1 no_caller)
    ∙ (task_get rows c.from-2.result no_caller
    ∙ (ap (λ n. get_or (tasks_in rows) n (initial_state now.image caller)) c.from-2.ensures
    ∙ (ap (λ h. get_or h.tasks caller (initial_state now.image caller)) c.self.view_is
    ∙ ap (λ n. get_or now.tasks n (initial_state now.image caller)) (sym caller_row)))) in
    let words = c.words.ensures ∙ (c.keep.ensures ∙ (c.top.ensures ∙ ap (λ v. arguments s.parameters v.frame.stack) waiting)) in
    let left : c.drop_top.new.self.task ≡ without s.parameters before = ap {A = TaskRow} (λ r. r.task) c.drop_top.ensures ∙ ap (without s.parameters) waiting in
    let dropped = slice_set rows c.from-2.result c.drop_top.new.self in
    let taken : tasks_in dropped ≡ slice_set now.tasks caller (without s.parameters before) =
    task_set rows c.from-2.result c.drop_top.new.self ∙ (λ k. slice_set (c.self.view_is k).tasks (c.from-2.ensures k) (left k)) in
    let row : c.row-row.result ≡ row_of now.image task = c.row-row.ensures in
    let no_server : TaskRow = record { task = initial_state now.image task; width = 0 } in
    let server : c.in-Some-get_mut-2.server.now.task ≡ row_at now.image now.tasks task =
    ap {A = TaskRow} (λ r. r.task) (c.in-Some-get_mut-2.ensures.item.3.1 no_server)
    ∙ (task_get dropped c.row-row.result no_server
    ∙ ((λ k. get_or (taken k) (row k) (initial_state now.image task))
    ∙ get_or-set_other now.tasks caller (row_of now.image task) (without s.parameters before) (initial_state now.image task)
    (row_apart now.image task caller c.requires.caller c.requires.other))) in
    subst (λ v. length v.callers < FRAMES) (sym server) c.requires.left
