-- What each effect comes to.
use Rattle.std.proofs.Common.{length-set, ◌≡◌, ℕ, ◌+◌, ◌<◌, ℤ, List, [], ◌∷◌, length, Bool, false, cond, refl, sym, ap, ◌∙◌, subst, ⊎_elim, arith, inl, Option}
use Rattle.std.specs.Prelude.{slice_set}
use Rattle.kernel.specs.Calm.{Calm}
use Rattle.kernel.specs.Effects as effects
use Rattle.kernel.specs.Effects.{Ending, Closes, TakesOver, HandsBack, after}
use Rattle.kernel.specs.Interrupts.{actor_if}
use Rattle.kernel.specs.Laws.{QuietStays, RunnerIsCalm, SaysOn}
use Rattle.kernel.specs.PutLaws.{put_other, put_same, put_self, same_or_not}
use Rattle.kernel.specs.State as kernel
use Rattle.kernel.specs.State.{put}
use Rattle.kernel.specs.Worlds.{ending, is_handler_over, reached}
use Rattle.image.specs.Code.{initial_state}
use Rattle.image.specs.Frames.{TaskState}
use Rattle.image.specs.Rules.{IsWellFormed}
use Rattle.image.specs.Sections.{Sections}
use Rattle.image.specs.Steps as steps
use Rattle.image.specs.Steps.{behaviour, is_open}
use Rattle.image_laws.specs.Whole.{RunnerGoesOn, StepsWhole}
use Rattle.task_steps.specs.Acting.{effect_of, given_of}
use Rattle.task_steps.specs.declared.acts.Act.{Act}
use Rattle.tasking.specs.Held as tasking
use Rattle.tasking.specs.Held.{kernel_of}
use Rattle.execution.specs.Held.{HeldWorld, begun, prepared, row_at, row_of, task_at, tasks_of}
use Rattle.execution.specs.Settling.{CanServe, KernelDoes, Owes, RunsThere, Settles, given_tasks, left_state, own_state, served_tasks}
use Rattle.execution.proofs.Begun.{begins, later_count, rows_begun}
use Rattle.execution.proofs.Ending.{given_put, given_size}
use Rattle.execution.proofs.Tasks.{at_row, at_task, row_low, task_put, task_row}

module _ (h : HeldWorld) (t : ℕ) (a : Act) where
  abbrev pub over : Bool
  over = is_handler_over (kernel_of h.tasking) t (effect_of h.image a.effect)

  -- what all hold before the end reaches others
  abbrev held : ℕ → TaskState
  held = put t (own_state h t a) (tasks_of h)

  abbrev reached_by : Ending → ℕ → TaskState
  reached_by e = reached (behaviour h.image h.schedule) t e (given_of h.memory.passed a.given) held

  -- an effect whose ending is e, by the rows that it leaves
  pub does_by : (x : tasking.Held) (rows : List TaskState) (v : Bool) (told : List kernel.Line) (e : Ending) → v ≡ over → length rows ≡ length h.tasks
      → record (kernel_of x) { lines = told } ≡ after t (effect_of h.image a.effect) (kernel_of h.tasking)
      → ending (kernel_of h.tasking) t (effect_of h.image a.effect) ≡ e
      → ((u : ℕ) → put t (left_state h rows t a) (task_at h.image h.tasking.handler rows) u ≡ reached_by e u)
      → KernelDoes h (record h { tasking = x; tasks = rows }) t a v told
  does_by x rows v told e is_over size is ends same =
      record { rest = refl; over = is_over; kernel = is; size = size; tasks = λ u. same u ∙ ap (λ q. reached_by q u) (sym ends) }

  -- one that reaches no other task
  does_alone : (x : tasking.Held) (v : Bool) (told : List kernel.Line) → v ≡ over
      → record (kernel_of x) { lines = told } ≡ after t (effect_of h.image a.effect) (kernel_of h.tasking)
      → ending (kernel_of h.tasking) t (effect_of h.image a.effect) ≡ Closes → KernelDoes h (record h { tasking = x }) t a v told
  does_alone x v told is_over is closes = does_by x h.tasks v told Closes is_over refl is closes (λ u. refl)

  -- the same from the state as it is seen
  pub does_seen : (x : tasking.Held) (view : HeldWorld) (v : Bool) → view ≡ h → v ≡ over → kernel_of x ≡ after t (effect_of h.image a.effect) (kernel_of h.tasking)
      → ending (kernel_of h.tasking) t (effect_of h.image a.effect) ≡ Closes → KernelDoes h (record view { tasking = x }) t a v []
  does_seen x view v same is_over is closes =
      subst (λ n. KernelDoes h n t a v []) (ap {A = HeldWorld} (λ n. record n { tasking = x }) (sym same)) (does_alone x v [] is_over is closes)

  -- by the effect's name
  pub does_effect : (x : tasking.Held) (view : HeldWorld) (e : effects.Effect) → view ≡ h → kernel_of x ≡ after t e (kernel_of view.tasking)
      → effect_of h.image a.effect ≡ e → is_handler_over (kernel_of h.tasking) t e ≡ false → ending (kernel_of h.tasking) t e ≡ Closes
      → KernelDoes h (record view { tasking = x }) t a false []
  does_effect x view e same is named still closes =
      does_seen x view false same (sym (ap (is_handler_over (kernel_of h.tasking) t) named ∙ still))
      (is ∙ (ap {A = HeldWorld} (λ n. after t e (kernel_of n.tasking)) same ∙ ap (λ v. after t v (kernel_of h.tasking)) (sym named)))
      (ap (ending (kernel_of h.tasking) t) named ∙ closes)

  calm : RunnerIsCalm → Owes h t a → Calm (kernel_of h.tasking) t
  calm runner o = runner (is_open h.image o.before.memory) (kernel_of h.tasking) t o.whole.kept o.runs

  -- a quiet step
  pub does_nothing : RunnerIsCalm → QuietStays → Owes h t a → effect_of h.image a.effect ≡ effects.Quiet → KernelDoes h h t a false []
  does_nothing runner stays o is =
      does_effect h.tasking h effects.Quiet refl (sym (stays (kernel_of h.tasking) t (calm runner o))) is refl refl

  -- a line
  pub does_line : RunnerIsCalm → SaysOn → (o : Owes h t a) (label : List ℕ) (value : ℤ) → effect_of h.image a.effect ≡ effects.Says label value →
      (v : ℤ) → v ≡ value → (line : kernel.Line) → line ≡ record { time = (kernel_of h.tasking).now; task = t; label = label; value = v }
      → KernelDoes h h t a false (line ∷ [])
  does_line runner says o label value is v back line same =
      does_alone h.tasking false (line ∷ []) (sym (ap (is_handler_over (kernel_of h.tasking) t) is))
      (ap (λ l. record (kernel_of h.tasking) { lines = l ∷ [] }) same
      ∙ (ap (λ x. record (kernel_of h.tasking) { lines = record { time = (kernel_of h.tasking).now; task = t; label = label; value = x } ∷ [] }) back)
      ∙ sym (ap (λ e. after t e (kernel_of h.tasking)) is ∙ (says (kernel_of h.tasking) t label value (calm runner o)).0))
      (ap (ending (kernel_of h.tasking) t) is)

-- the tasks once the entry body is run for the caller
module _ (i : Sections) (handler : Option ℕ) (rows : List TaskState) (t o u : ℕ) (there : RunsThere i handler t) (low : u < length i.tasks) (other : u ≡ t → ⊥)
    (size : length rows ≡ length i.tasks + 1) where
  abbrev taken_from : TaskState
  taken_from = steps.taken i o (row_at i rows u)

  abbrev server : TaskState
  server = steps.serving i o u (row_at i rows u) (row_at i rows t)

  abbrev inner : List TaskState
  inner = slice_set rows u taken_from

  -- the caller's row has its number
  caller_put : (v : ℕ) → task_at i handler inner v ≡ put u taken_from (task_at i handler rows) v
  caller_put v =
      let row : row_of i u ≡ u = task_row i u low in
      let lt : row_of i u < length rows = omega (arith, row, low, size) in
      ap (λ r. task_at i handler (slice_set rows r taken_from) v) (sym row) ∙ task_put i handler rows there.beyond u (inl low) taken_from lt v

  pub served_put : (v : ℕ) → task_at i handler (served_tasks i rows t o u) v ≡ put u taken_from (put t server (task_at i handler rows)) v
  served_put v =
      let lt : row_of i t < length inner = let r = row_low i t in omega (arith, r, size, length-set rows u taken_from) in
      task_put i handler inner there.beyond t there.here server lt v
      ∙ ⊎_elim
      (λ e.
      put_same t v server (task_at i handler inner) e
      ∙ sym (put_other u v taken_from (put t server (task_at i handler rows)) (λ f. other (sym f ∙ e)) ∙ put_same t v server (task_at i handler rows) e))
      (λ ne.
      put_other t v server (task_at i handler inner) ne
      ∙ (caller_put v
      ∙ ⊎_elim
      (λ f. put_same u v taken_from (task_at i handler rows) f ∙ sym (put_same u v taken_from (put t server (task_at i handler rows)) f))
      (λ nf.
      put_other u v taken_from (task_at i handler rows) nf
      ∙ sym (put_other u v taken_from (put t server (task_at i handler rows)) nf ∙ put_other t v server (task_at i handler rows) ne))
      (same_or_not v u)))
      (same_or_not v t)

-- the end of an action by which a queued call is served, and one by which the caller goes on
module _ (h : HeldWorld) (t : ℕ) (a : Act) (x : tasking.Held) (v : Bool) (there : RunsThere h.image h.tasking.handler t) (is_over : v ≡ over h t a)
    (size : length h.tasks ≡ length h.image.tasks + 1) (is : kernel_of x ≡ after t (effect_of h.image a.effect) (kernel_of h.tasking)) where
  abbrev f : ℕ → TaskState
  f = tasks_of h

  -- it serves: t is not over
  pub does_serve : (o u : ℕ) → ending (kernel_of h.tasking) t (effect_of h.image a.effect) ≡ TakesOver o u → CanServe h.image h.tasks t o u → over h t a ≡ false
      → KernelDoes h (record h { tasking = x; tasks = served_tasks h.image h.tasks t o u }) t a v []
  does_serve o u ends can still =
      let i = h.image in
      let rows = served_tasks i h.tasks t o u in
      let at_u : row_at i h.tasks u ≡ f u = sym (at_task i h.tasking.handler h.tasks u can.caller) in
      let at_t : row_at i h.tasks t ≡ f t = sym (at_row i h.tasking.handler h.tasks t there.here) in
      let same_size : length rows ≡ length h.tasks =
      length-set (slice_set h.tasks u (steps.taken i o (row_at i h.tasks u))) (row_of i t) (steps.serving i o u (row_at i h.tasks u) (row_at i h.tasks t))
      ∙ length-set h.tasks u (steps.taken i o (row_at i h.tasks u)) in
      let own_is : put t (own_state h t a) f ≡ f =
      ap (λ w. put t (cond w (initial_state i t) (f t)) f) still ∙ (λ j. λ w. put_self t f w j) in
      let own_left : (w : ℕ) → put t (left_state h rows t a) (task_at i h.tasking.handler rows) w ≡ task_at i h.tasking.handler rows w =
      (λ w.
      ap (λ y. put t (cond y (initial_state i t) (task_at i h.tasking.handler rows t)) (task_at i h.tasking.handler rows) w) still
      ∙ put_self t (task_at i h.tasking.handler rows) w) in
      does_by h t a x rows v [] (TakesOver o u) is_over same_size is ends
      (λ w.
      own_left w
      ∙ (served_put i h.tasking.handler h.tasks t o u there can.caller can.other size w
      ∙ (ap (λ g. put u (steps.taken i o g) (put t (steps.serving i o u g (row_at i h.tasks t)) f) w) at_u
      ∙ (ap (λ g. put u (steps.taken i o (f u)) (put t (steps.serving i o u (f u) g) f) w) at_t
      ∙ ap (λ g. reached (behaviour i h.schedule) t (TakesOver o u) (given_of h.memory.passed a.given) g w) (sym own_is)))))

  pub does_give : (u : ℕ) → ending (kernel_of h.tasking) t (effect_of h.image a.effect) ≡ HandsBack u → u < length h.image.tasks → (u ≡ t → ⊥)
      → KernelDoes h (record h { tasking = x; tasks = given_tasks h.image h.tasks u (given_of h.memory.passed a.given) }) t a v []
  does_give u ends low other =
      let i = h.image in
      let g = given_of h.memory.passed a.given in
      let all = given_size i h.tasks u g size in
      does_by h t a x (given_tasks i h.tasks u g) v [] (HandsBack u) is_over (all ∙ sym size) is ends
      (λ w. given_put i h.tasking.handler h.tasks h.schedule t u there.beyond low other size (over h t a) g w)

-- Once a handler that has begun is prepared all is settled

module _ (steps : StepsWhole) (goes : RunnerGoesOn) (h mid : HeldWorld) (w : IsWellFormed h.image) (t : ℕ) (a : Act) (told : List kernel.Line) (v : Bool)
    (o : Owes h t a) (before : h.tasking.handler ≡ actor_if (kernel_of h.tasking).partition (kernel_of h.tasking).running) (m : KernelDoes h mid t a v told) where
  -- the number of tasks stays
  pub still_there : (kernel_of mid.tasking).partition.tasks ≡ length mid.image.tasks
  still_there = later_count steps goes h w t a o before mid.tasking told m.kernel ∙ sym (ap {A = HeldWorld} (λ n. length n.image.tasks) m.rest)

  pub settles_begun : (later : HeldWorld) (was : Option ℕ) → length h.tasks ≡ length h.image.tasks + 1 → was ≡ h.tasking.handler
      → mid.tasking.handler ≡ actor_if (kernel_of mid.tasking).partition (kernel_of mid.tasking).running
      → later ≡ record mid { tasks = prepared mid.image mid.tasks (begun was v mid.tasking.handler) } → Settles h later t a told
  settles_begun later was size same runs moved =
      let x = mid.tasking in
      let rows = mid.tasks in
      let b = begins steps goes h w t a o before x told m.kernel runs in
      let whole : later ≡ record h { tasking = x; tasks = prepared h.image rows (begun h.tasking.handler (over h t a) x.handler) } =
      moved
      ∙ (λ j. record (m.rest j) { tasks = prepared (m.rest j).image (m.rest j).tasks (begun (same j) (m.over j) (m.rest j).tasking.handler) }) in
      subst (λ n. Settles h n t a told) (sym whole)
      (record {
        image = refl;
        schedule = refl;
        shared = refl;
        kernel = m.kernel;
        tasks = λ j. λ u. (rows_begun h.image rows (m.size ∙ size) h.tasking.handler x.handler t (over h t a) b u ∙ m.tasks u) j;
      })
