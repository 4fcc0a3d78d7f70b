-- The start: tasks at the first instruction of their bodies, priorities and ceilings as the image has them.
use Rattle.std.proofs.Common.{◌≡◌, ℕ, zero, suc, ◌+◌, ◌-◌, ◌<◌, ◌≤◌, List, [], ◌∷◌, ◌++◌, drop, length, map, get_or, cond, false, Option, None, refl, sym, ap, ◌∙◌, subst, arith, length-append}
use Rattle.std.proofs.lemmas.Bool.{lt-ltb}
use Rattle.std.proofs.lemmas.List.{append-nil, drop_all, get_or_append_left, length-map}
use Rattle.std.specs.Prelude.{slice_get}
use Rattle.base.specs.declared.limits.TheConstants.{CEILING, PRIORITIES}
use Rattle.kernel.specs.Invariant.{Fits}
use Rattle.image.specs.Code.{body_of, ceiling_of, initial_state, partition_of, priority_of}
use Rattle.image.specs.Starting.{handler_state, task_state}
use Rattle.image.specs.Frames.{TaskState}
use Rattle.image.specs.ObjectTable.{ObjectRow}
use Rattle.image.specs.Rules.{IsWellFormed}
use Rattle.image.specs.Sections.{Sections}
use Rattle.image.specs.declared.tasks.Task.{Task}
use Rattle.image_laws.specs.Whole.{StartsWhole}
use Rattle.processor.specs.Layout.{TaskRow}
use Rattle.tasking.specs.Held as tasking
use Rattle.execution.specs.Held.{begun, body_state, prepared, row_at, task_at}
use Rattle.execution.proofs.Begun.{all_at_start}
use Rattle.execution.proofs.RowsOf.{body_rows}
use Rattle.execution.proofs.Tasks.{task_row}

-- tasks

begun_or : (i : Sections) (tasks : List Task) (t : ℕ) (d : TaskState) → d ≡ body_state i (body_of (slice_get tasks t)) → get_or (map (λ x. body_state i x.subprogram) tasks) t d ≡ body_state i (body_of (slice_get tasks t))
begun_or i [] t d is = is
begun_or i (x ∷ tasks) zero d is = refl
begun_or i (x ∷ tasks) (suc t) d is = begun_or i tasks t d is

-- a row more is that of the handler, which is prepared where one has begun
module _ (i : Sections) (tasks : List TaskState) (last : TaskState) (is : tasks ≡ map (λ t. body_state i t.subprogram) i.tasks) where
  abbrev rows : List TaskState
  rows = tasks ++ last ∷ []

  count : length tasks ≡ length i.tasks
  count = ap length is ∙ length-map i.tasks (λ t. body_state i t.subprogram)

  pub rows_count : length rows ≡ length i.tasks + 1
  rows_count = length-append tasks (last ∷ []) ∙ ap (λ n. n + 1) count

  row_begun : (t : ℕ) → t < length i.tasks → row_at i rows t ≡ initial_state i t
  row_begun t lt =
      let d = initial_state i t in
      let task : d ≡ task_state i t = ap (λ b. cond b (task_state i t) (handler_state i (t - length i.tasks))) (lt-ltb t (length i.tasks) lt) in
      ap (λ r. get_or rows r d) (task_row i t lt)
      ∙ (get_or_append_left tasks (last ∷ []) d t (omega (arith, lt, count))
      ∙ (ap (λ l. get_or l t d) is ∙ (begun_or i i.tasks t d task ∙ sym task)))

  pub tasks_begun : (handler : Option ℕ) (t : ℕ) → task_at i handler (prepared i rows (begun None false handler)) t ≡ initial_state i t
  tasks_begun handler t = all_at_start i rows rows_count handler row_begun t

-- the partition

bases_or : (tasks : List Task) (t : ℕ) → get_or (map (λ x. x.priority) tasks) t CEILING ≡ priority_of (slice_get tasks t)
bases_or [] t = refl
bases_or (x ∷ tasks) zero = refl
bases_or (x ∷ tasks) (suc t) = bases_or tasks t

ceilings_or : (objects : List ObjectRow) (o : ℕ) → get_or (map (λ x. x.ceiling) objects) o 0 ≡ ceiling_of (slice_get objects o)
ceilings_or [] o = refl
ceilings_or (x ∷ objects) zero = refl
ceilings_or (x ∷ objects) (suc o) = ceilings_or objects o

pub same_partition : (i : Sections) (bases ceilings : List ℕ) → bases ≡ map (λ t. t.priority) i.tasks → ceilings ≡ map (λ o. o.ceiling) i.objects → tasking.partition_of bases ceilings ≡ partition_of i
same_partition i bases ceilings b c =
    (λ j. tasking.partition_of (b j) (c j))
    ∙ (λ j. record {
      tasks = length-map i.tasks (λ t. t.priority) j;
      objects = length-map i.objects (λ o. o.ceiling) j;
      base = λ t. bases_or i.tasks t j;
      ceiling = λ o. ceilings_or i.objects o j;
    })

pub fits_image : StartsWhole → (i : Sections) → IsWellFormed i → Fits (partition_of i)
fits_image starts i w =
    let h = starts i w [] in
    record {
      base_low = λ t. subst (λ p. p.base t < PRIORITIES) h.partition (h.kept.sound.base_low t);
      ceiling_low = λ o. subst (λ p. p.ceiling o < PRIORITIES) h.partition (h.kept.sound.ceiling_low o);
      urgent = λ u le. subst (λ p. p.tasks ≤ u → suc (p.base u) ≡ PRIORITIES) h.partition (λ l. h.kept.sound.urgent u l) le;
    }

-- a list of what is left, once nothing is left
pub all_begun : (i : Sections) (width : ℕ) (rows : List TaskRow) (bodies : List Task) (n : ℕ) → length bodies ≤ n → rows ++ body_rows i width (drop n bodies) ≡ body_rows i width bodies
    → rows ≡ body_rows i width bodies
all_begun i width rows bodies n le is =
    sym (append-nil rows) ∙ (ap (λ l. rows ++ body_rows i width l) (sym (drop_all n bodies le)) ∙ is)
