-- Whose handler runs before and behind a step, and the rows once that of a handler that has begun is prepared.
use Rattle.std.proofs.Common.{◌≡◌, ℕ, ◌+◌, ◌<◌, ◌≤◌, List, length, Bool, true, false, cond, get_or, Option, Some, None, refl, sym, ap, ◌∙◌, subst, arith, ⊎_elim}
use Rattle.std.proofs.lemmas.Bool.{and_parts, cases_lt, le-ltb, true≢false}
use Rattle.std.proofs.lemmas.Grind.{get_or-set_at}
use Rattle.std.proofs.lemmas.List.{get_or-set_other}
use Rattle.std.proofs.lemmas.Option.{none-some}
use Rattle.std.specs.Prelude.{◌||◌, not, slice_set}
use Rattle.kernel.specs.Effects.{Effect, Quiet, Finishes, Breaks, Says, Delays, Opens, Views, Queues, Ends, Dies, after, ending_of, is_last}
use Rattle.kernel.specs.Interrupts.{actor_if}
use Rattle.kernel.specs.PutLaws.{eqb_other, eqb_same, put_other, put_same, put_self, same_or_not}
use Rattle.kernel.specs.RunLaws.{step_running}
use Rattle.kernel.specs.State as kernel
use Rattle.kernel.specs.State.{Kernel, is_task, put}
use Rattle.kernel.specs.Worlds.{among, is_handler_over, solo_of, step}
use Rattle.image.specs.Code.{CodeWorld, initial_state, partition_of}
use Rattle.image.specs.Frames.{TaskState}
use Rattle.image.specs.Rules.{IsWellFormed}
use Rattle.image.specs.Sections.{Sections}
use Rattle.image.specs.Steps.{act, behaviour}
use Rattle.image_laws.specs.Whole.{IsWhole, RunnerGoesOn, StepsWhole}
use Rattle.task_steps.specs.Acting.{effect_of}
use Rattle.task_steps.specs.declared.acts.Act.{Act}
use Rattle.tasking.specs.Held as tasking
use Rattle.tasking.specs.Held.{is_handler, kernel_of}
use Rattle.execution.specs.Held.{HeldWorld, begun, prepared, row_at, task_at}
use Rattle.execution.specs.Settling.{IsBeyond, Owes, RunsThere}
use Rattle.execution.proofs.Tasks.{at_handler, at_none, at_task, beyond_of, beyond_row, task_row, there_of}

-- the handler before a step of t, and the one behind it: where t is over another one may begin, and else it runs on
pub record Begins (i : Sections) (before now : Option ℕ) (t : ℕ) (is_over : Bool) : Type 0 where
  pub there : RunsThere i before t
  pub beyond : IsBeyond i now
  pub goes_on : (a : ℕ) → before ≡ Some a → is_over ≡ false → now ≡ before
  pub ended : is_over ≡ true → before ≡ Some t

-- ---- the rows

none_begun : (now : Option ℕ) → begun None false now ≡ now
none_begun None = refl
none_begun (Some a) = refl

all_begun : (before now : Option ℕ) → begun before true now ≡ now
all_begun before None = refl
all_begun before (Some a) = refl

same_runs : (a : ℕ) → begun (Some a) false (Some a) ≡ None
same_runs a = ap (λ v. cond (not v) (Some a) None) (eqb_same a a refl)

pub begun_is : (before : Option ℕ) (is_over : Bool) (now : Option ℕ) (a : ℕ) → begun before is_over now ≡ Some a → now ≡ Some a
begun_is before is_over None a e = absurd (none-some a e)
begun_is before is_over (Some b) a e = by (is_over || not (is_handler before b)) e
  where
    by : (v : Bool) → cond v (Some b) None ≡ Some a → Some b ≡ Some a
    by true f = f
    by false f = absurd (none-some a f)

module _ (i : Sections) (rows : List TaskState) (size : length rows ≡ length i.tasks + 1) where
  -- tasks keep their rows
  low_row : (u : ℕ) → u < length i.tasks → (o : Option ℕ) → row_at i (prepared i rows o) u ≡ row_at i rows u
  low_row u lt None = refl
  low_row u lt (Some a) =
      let n = length i.tasks in
      ap (λ r. get_or (slice_set rows n (initial_state i a)) r (initial_state i u)) (task_row i u lt)
      ∙ (get_or-set_other rows n u (initial_state i a) (initial_state i u) (λ e. omega (arith, lt, e))
      ∙ sym (ap (λ r. get_or rows r (initial_state i u)) (task_row i u lt)))

  -- and who is no task is as at the start, whether it begins or not
  pub fresh : (now : Option ℕ) (u : ℕ) → length i.tasks ≤ u → task_at i now (prepared i rows now) u ≡ initial_state i u
  fresh None u le = at_none i None rows u le refl
  fresh (Some a) u le =
      let n = length i.tasks in
      let later = slice_set rows n (initial_state i a) in
      ⊎_elim
      (λ e.
      at_handler i (Some a) later u (eqb_same u a e)
      ∙ (ap (λ r. get_or later r (initial_state i u)) (beyond_row i u le)
      ∙ (get_or-set_at rows n n (initial_state i a) (initial_state i u) refl (omega (arith, size)) ∙ ap (initial_state i) (sym e))))
      (λ ne. at_none i (Some a) later u le (eqb_other u a ne))
      (same_or_not u a)

  -- at the start of a run
  pub all_at_start : (now : Option ℕ) → ((u : ℕ) → u < length i.tasks → row_at i rows u ≡ initial_state i u) → (u : ℕ)
      → task_at i now (prepared i rows (begun None false now)) u ≡ initial_state i u
  all_at_start now starts u =
      ⊎_elim
      (λ lt. at_task i now (prepared i rows (begun None false now)) u lt ∙ (low_row u lt (begun None false now) ∙ starts u lt))
      (λ le. ap (λ o. task_at i now (prepared i rows o) u) (none_begun now) ∙ fresh now u le)
      (cases_lt u (length i.tasks))

  module _ (before now : Option ℕ) (t : ℕ) (is_over : Bool) (b : Begins i before now t is_over) where
    abbrev later : List TaskState
    later = prepared i rows (begun before is_over now)

    abbrev pub own : TaskState
    own = cond is_over (initial_state i t) (task_at i before rows t)

    own_task : t < length i.tasks → own ≡ task_at i before rows t
    own_task lt = by is_over refl
      where
        by : (v : Bool) → is_over ≡ v → cond v (initial_state i t) (task_at i before rows t) ≡ task_at i before rows t
        by true e = absurd (let le = b.there.beyond t (b.ended e) in omega (arith, le, lt))
        by false e = refl

    of_task : (u : ℕ) → u < length i.tasks → task_at i now later u ≡ put t own (task_at i before rows) u
    of_task u lt =
        at_task i now later u lt
        ∙ (low_row u lt (begun before is_over now)
        ∙ (sym (at_task i before rows u lt)
        ∙ sym (⊎_elim
        (λ e. put_same t u own (task_at i before rows) e ∙ (own_task (subst (λ v. v < length i.tasks) e lt) ∙ ap (task_at i before rows) (sym e)))
        (λ ne. put_other t u own (task_at i before rows) ne)
        (same_or_not u t))))

    -- t is a handler that is over
    of_over : is_over ≡ true → (u : ℕ) → length i.tasks ≤ u → task_at i now later u ≡ put t own (task_at i before rows) u
    of_over e u le =
        ap (λ v. task_at i now (prepared i rows (begun before v now)) u) e
        ∙ (ap (λ o. task_at i now (prepared i rows o) u) (all_begun before now)
        ∙ (fresh now u le
        ∙ sym (⊎_elim
        (λ same. put_same t u own (task_at i before rows) same ∙ (ap (λ v. cond v (initial_state i t) (task_at i before rows t)) e ∙ ap (initial_state i) (sym same)))
        (λ ne.
        put_other t u own (task_at i before rows) ne
        ∙ at_none i before rows u le (ap (λ h. is_handler h u) (b.ended e) ∙ eqb_other u t ne))
        (same_or_not u t))))

    -- t goes on, or is a task
    of_going : (o : Option ℕ) → before ≡ o → is_over ≡ false → (u : ℕ) → length i.tasks ≤ u → task_at i now later u ≡ task_at i before rows u
    of_going None is still u le =
        (λ j. task_at i now (prepared i rows (begun (is j) (still j) now)) u)
        ∙ (ap (λ o. task_at i now (prepared i rows o) u) (none_begun now)
        ∙ (fresh now u le ∙ sym (ap (λ o. task_at i o rows u) is ∙ at_none i None rows u le refl)))
    of_going (Some a) is still u le =
        let same : now ≡ Some a = b.goes_on a is still ∙ is in
        (λ j. task_at i (same j) (prepared i rows (begun (is j) (still j) (same j))) u)
        ∙ (ap (λ o. task_at i (Some a) (prepared i rows o) u) (same_runs a) ∙ ap (λ o. task_at i o rows u) (sym is))

    pub rows_begun : (u : ℕ) → task_at i now later u ≡ put t own (task_at i before rows) u
    rows_begun u = ⊎_elim (λ lt. of_task u lt) (λ le. by is_over refl le) (cases_lt u (length i.tasks))
      where
        by : (v : Bool) → is_over ≡ v → length i.tasks ≤ u → task_at i now later u ≡ put t own (task_at i before rows) u
        by true e le = of_over e u le
        by false e le =
            of_going before refl e u le
            ∙ (sym (put_self t (task_at i before rows) u)
            ∙ ap (λ v. put t (cond v (initial_state i t) (task_at i before rows t)) (task_at i before rows) u) (sym e))

-- ---- a step of the kernel

not_false : (b : Bool) → not b ≡ true → b ≡ false
not_false true e = absurd (true≢false (sym e))
not_false false e = refl

-- only a handler is over
over_beyond : (k : Kernel) (t : ℕ) (e : Effect) → is_handler_over k t e ≡ true → is_task k.partition t ≡ false
over_beyond k t (Ends b) is = not_false (is_task k.partition t) (and_parts (is_last (k.actions t) (ending_of b (k.actions t) k.queued)) _ is).1
over_beyond k t Quiet is = absurd (true≢false (sym is))
over_beyond k t Finishes is = absurd (true≢false (sym is))
over_beyond k t Breaks is = absurd (true≢false (sym is))
over_beyond k t (Says label value) is = absurd (true≢false (sym is))
over_beyond k t (Delays until) is = absurd (true≢false (sym is))
over_beyond k t (Opens o) is = absurd (true≢false (sym is))
over_beyond k t (Views o) is = absurd (true≢false (sym is))
over_beyond k t (Queues o) is = absurd (true≢false (sym is))
over_beyond k t (Dies x) is = absurd (true≢false (sym is))

module _ (steps : StepsWhole) (goes : RunnerGoesOn) (h : HeldWorld) (w : IsWellFormed h.image) (t : ℕ) (a : Act) (o : Owes h t a)
    (before : h.tasking.handler ≡ actor_if (kernel_of h.tasking).partition (kernel_of h.tasking).running) where
  abbrev k : Kernel
  k = kernel_of h.tasking

  abbrev e : Effect
  e = effect_of h.image a.effect

  abbrev owed : CodeWorld
  owed = record { kernel = k; rest = o.before }

  is_effect : (act h.image h.schedule k t (solo_of t o.before)).effect ≡ e
  is_effect = ap (λ r. r.effect) o.did

  pub count : k.partition.tasks ≡ length h.image.tasks
  count = ap (λ p. p.tasks) o.whole.partition

  stepped : IsWhole h.image (step (among (behaviour h.image h.schedule)) owed)
  stepped = steps h.image w h.schedule owed o.whole

  later_partition : (after t e k).partition ≡ partition_of h.image
  later_partition =
      ap (λ v. (after t v k).partition) (sym is_effect)
      ∙ (ap (λ v. v.kernel.partition) (sym (step_running (among (behaviour h.image h.schedule)) k t o.before o.runs)) ∙ stepped.partition)

  -- whatever lines were told
  pub later_count : (x : tasking.Held) (told : List kernel.Line) → record (kernel_of x) { lines = told } ≡ after t e k
      → (kernel_of x).partition.tasks ≡ length h.image.tasks
  later_count x told is = ap (λ l. l.partition.tasks) is ∙ ap (λ p. p.tasks) later_partition

  handler_is : h.tasking.handler ≡ cond (is_task k.partition t) None (Some t)
  handler_is = before ∙ ap (actor_if k.partition) o.runs.running

  -- a handler that runs is t, which is no task
  is_running : (b : ℕ) → h.tasking.handler ≡ Some b → is_task k.partition t ≡ false
  is_running b is = by (is_task k.partition t) refl (sym is ∙ handler_is)
    where
      by : (v : Bool) → is_task k.partition t ≡ v → Some b ≡ cond v None (Some t) → is_task k.partition t ≡ false
      by true task f = absurd (none-some b (sym f))
      by false task f = task

  running_is : is_task k.partition t ≡ false → h.tasking.handler ≡ Some t
  running_is own = handler_is ∙ ap (λ v. cond v None (Some t)) own

  low : (own : is_task k.partition t ≡ false) → length h.image.tasks ≤ t
  low own = (there_of h.image k.partition count h.tasking.handler k.running t before o.runs.running).beyond t (running_is own)

  runs_on : (x : tasking.Held) (told : List kernel.Line) → record (kernel_of x) { lines = told } ≡ after t e k → x.handler ≡ actor_if (kernel_of x).partition (kernel_of x).running
      → is_task k.partition t ≡ false → is_handler_over k t e ≡ false → x.handler ≡ h.tasking.handler
  runs_on x told is now own still =
      let runs : (after t e k).running ≡ Some t =
      subst (λ v. is_handler_over k t v ≡ false → (after t v k).running ≡ Some t) is_effect (goes h.image w h.schedule owed t o.whole o.runs.running (low own)) still in
      let none : is_task (kernel_of x).partition t ≡ false =
      (let le = low own in let c = later_count x told is in le-ltb t (kernel_of x).partition.tasks (omega (arith, le, c))) in
      now
      ∙ (ap (actor_if (kernel_of x).partition) (ap (λ l. l.running) is ∙ runs)
      ∙ (ap (λ v. cond v None (Some t)) none ∙ sym (running_is own)))

  pub begins : (x : tasking.Held) (told : List kernel.Line) → record (kernel_of x) { lines = told } ≡ after t e k → x.handler ≡ actor_if (kernel_of x).partition (kernel_of x).running
      → Begins h.image h.tasking.handler x.handler t (is_handler_over k t e)
  begins x told is now = record {
    there = there_of h.image k.partition count h.tasking.handler k.running t before o.runs.running;
    beyond = beyond_of h.image (kernel_of x).partition (later_count x told is) x.handler (kernel_of x).running now;
    goes_on = λ b own still. runs_on x told is now (is_running b own) still;
    ended = λ over. running_is (over_beyond k t e over);
  }
