-- Tasks and their rows, which all have one width.
use Rattle.std.proofs.Common.{◌≡◌, ℕ, zero, suc, ◌<◌, List, [], ◌∷◌, ◌++◌, length, map, get_or, refl, ap, arith}
use Rattle.std.specs.Prelude.{slice_set}
use Rattle.image.specs.Sections.{Sections}
use Rattle.image.specs.declared.tasks.Task.{Task}
use Rattle.processor.specs.Layout.{TaskRow}
use Rattle.execution.specs.Held.{RowsAreWide, body_state, tasks_in}

-- the task of a row
pub task_get : (rows : List TaskRow) (n : ℕ) (d : TaskRow) → (get_or rows n d).task ≡ get_or (tasks_in rows) n d.task
task_get [] n d = refl
task_get (r ∷ rows) zero d = refl
task_get (r ∷ rows) (suc n) d = task_get rows n d

pub task_set : (rows : List TaskRow) (n : ℕ) (r : TaskRow) → tasks_in (slice_set rows n r) ≡ slice_set (tasks_in rows) n r.task
task_set [] n r = refl
task_set (q ∷ rows) zero r = refl
task_set (q ∷ rows) (suc n) r = ap (λ l. q.task ∷ l) (task_set rows n r)

pub task_append : (rows : List TaskRow) (r : TaskRow) → tasks_in (rows ++ r ∷ []) ≡ tasks_in rows ++ r.task ∷ []
task_append [] r = refl
task_append (q ∷ rows) r = ap (λ l. q.task ∷ l) (task_append rows r)

pub tasks_count : (rows : List TaskRow) → length (tasks_in rows) ≡ length rows
tasks_count [] = refl
tasks_count (r ∷ rows) = ap suc (tasks_count rows)

-- the width of a row
pub wide_get : (width : ℕ) (rows : List TaskRow) (n : ℕ) (d : TaskRow) → RowsAreWide width rows → n < length rows → (get_or rows n d).width ≡ width
wide_get width [] n d wide lt = absurd (omega (arith, lt))
wide_get width (r ∷ rows) zero d wide lt = wide.0
wide_get width (r ∷ rows) (suc n) d wide lt = wide_get width rows n d wide.1 (omega (arith, lt))

pub wide_set : (width : ℕ) (rows : List TaskRow) (n : ℕ) (r : TaskRow) → RowsAreWide width rows → r.width ≡ width → RowsAreWide width (slice_set rows n r)
wide_set width [] n r wide is = wide
wide_set width (q ∷ rows) zero r wide is = (is, wide.1)
wide_set width (q ∷ rows) (suc n) r wide is = (wide.0, wide_set width rows n r wide.1 is)

pub wide_append : (width : ℕ) (rows : List TaskRow) (r : TaskRow) → RowsAreWide width rows → r.width ≡ width → RowsAreWide width (rows ++ r ∷ [])
wide_append width [] r wide is = (is, tt)
wide_append width (q ∷ rows) r wide is = (wide.0, wide_append width rows r wide.1 is)

-- the rows of tasks at the first instruction of their bodies
abbrev pub body_rows : Sections → ℕ → List Task → List TaskRow
body_rows i width tasks = map (λ t. record { task = body_state i t.subprogram; width = width }) tasks

pub body_tasks : (i : Sections) (width : ℕ) (tasks : List Task) → tasks_in (body_rows i width tasks) ≡ map (λ t. body_state i t.subprogram) tasks
body_tasks i width [] = refl
body_tasks i width (t ∷ tasks) = ap (λ l. body_state i t.subprogram ∷ l) (body_tasks i width tasks)

pub body_wide : (i : Sections) (width : ℕ) (tasks : List Task) → RowsAreWide width (body_rows i width tasks)
body_wide i width [] = tt
body_wide i width (t ∷ tasks) = (refl, body_wide i width tasks)
