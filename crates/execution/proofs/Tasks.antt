-- The states of tasks and of the handler, by their rows, once one has changed.
use Rattle.std.proofs.Common.{◌≡◌, inl, inr, ℕ, ◌+◌, ◌<◌, ◌≤◌, List, length, Bool, true, false, cond, Option, Some, None, refl, sym, ap, ◌∙◌, arith, ⊎_elim}
use Rattle.std.proofs.lemmas.Bool.{cases_lt, le-ltb, lt-ltb, ltb-false, ltb-true}
use Rattle.std.proofs.lemmas.Grind.{get_or-set_at}
use Rattle.std.proofs.lemmas.List.{get_or-set_other}
use Rattle.std.proofs.lemmas.Option.{none-some, same_Some}
use Rattle.std.specs.Prelude.{◌||◌, nat_lt, slice_set}
use Rattle.kernel.specs.Interrupts.{actor_if}
use Rattle.kernel.specs.PutLaws.{eqb_other, eqb_same, put_other, put_same, same_or_not}
use Rattle.kernel.specs.State.{Partition, is_task, put}
use Rattle.image.specs.Code.{initial_state, partition_of}
use Rattle.image.specs.Frames.{TaskState}
use Rattle.image.specs.Sections.{Sections}
use Rattle.tasking.specs.Held.{is_handler, kernel_of}
use Rattle.execution.specs.Held.{HeldWorld, row_at, row_of, task_at}
use Rattle.execution.specs.Settling.{IsBeyond, IsHere, RunsThere}

-- ---- rows

module _ (i : Sections) where
  pub task_row : (t : ℕ) → t < length i.tasks → row_of i t ≡ t
  task_row t lt = ap (λ b. cond b t (length i.tasks)) (lt-ltb t (length i.tasks) lt)

  pub beyond_row : (t : ℕ) → length i.tasks ≤ t → row_of i t ≡ length i.tasks
  beyond_row t le = ap (λ b. cond b t (length i.tasks)) (le-ltb t (length i.tasks) le)

  pub row_low : (t : ℕ) → row_of i t < length i.tasks + 1
  row_low t =
      ⊎_elim
      (λ lt. let e = task_row t lt in omega (arith, e, lt))
      (λ le. let e = beyond_row t le in omega (arith, e))
      (cases_lt t (length i.tasks))

  -- that of another task is another row
  pub row_apart : (t u : ℕ) → u < length i.tasks → (u ≡ t → ⊥) → row_of i t ≡ u → ⊥
  row_apart t u low ne e =
      ⊎_elim
      (λ lt. ne (sym e ∙ task_row t lt))
      (λ le. let row = beyond_row t le in omega (arith, row, e, low))
      (cases_lt t (length i.tasks))

  abbrev held_at : List TaskState → ℕ → Bool → Bool → TaskState
  held_at rows t own is = cond (own || is) (row_at i rows t) (initial_state i t)

  any_own : (rows : List TaskState) (t : ℕ) (own : Bool) → held_at rows t own true ≡ row_at i rows t
  any_own rows t true = refl
  any_own rows t false = refl

  pub at_task : (handler : Option ℕ) (rows : List TaskState) (t : ℕ) → t < length i.tasks → task_at i handler rows t ≡ row_at i rows t
  at_task handler rows t lt = ap (λ b. held_at rows t b (is_handler handler t)) (lt-ltb t (length i.tasks) lt)

  pub at_handler : (handler : Option ℕ) (rows : List TaskState) (t : ℕ) → is_handler handler t ≡ true → task_at i handler rows t ≡ row_at i rows t
  at_handler handler rows t is = ap (held_at rows t (nat_lt t (length i.tasks))) is ∙ any_own rows t (nat_lt t (length i.tasks))

  pub at_none : (handler : Option ℕ) (rows : List TaskState) (t : ℕ) → length i.tasks ≤ t → is_handler handler t ≡ false → task_at i handler rows t ≡ initial_state i t
  at_none handler rows t le is = ap (λ b. held_at rows t b (is_handler handler t)) (le-ltb t (length i.tasks) le) ∙ ap (held_at rows t false) is

  pub at_row : (handler : Option ℕ) (rows : List TaskState) (t : ℕ) → IsHere i handler t → task_at i handler rows t ≡ row_at i rows t
  at_row handler rows t (inl lt) = at_task handler rows t lt
  at_row handler rows t (inr is) = at_handler handler rows t is

-- ---- who is there

is_same : (handler : Option ℕ) (t : ℕ) → is_handler handler t ≡ true → handler ≡ Some t
is_same None t is = absurd cc
is_same (Some a) t is = ap Some (sym (eqb_true t a is))
  where
    eqb_true : (u a : ℕ) → is_handler (Some a) u ≡ true → u ≡ a
    eqb_true u a e = ⊎_elim (λ same. same) (λ ne. let no : is_handler (Some a) u ≡ false = eqb_other u a ne in absurd cc) (same_or_not u a)

module _ (i : Sections) (handler : Option ℕ) (rows : List TaskState) (beyond : IsBeyond i handler) (t : ℕ) (here : IsHere i handler t) (s : TaskState) where
  -- two that are there have two rows
  apart_here : (u : ℕ) → (u ≡ t → ⊥) → IsHere i handler u → row_of i u ≡ row_of i t → ⊥
  apart_here u ne (inl low) e = row_apart i t u low ne (sym e ∙ task_row i u low)
  apart_here u ne (inr is) e = by here
    where
      by : IsHere i handler t → ⊥
      by (inl low) = row_apart i u t low (λ f. ne (sym f)) (e ∙ task_row i t low)
      by (inr own) = ne (let same : Some u ≡ Some t = sym (is_same handler u is) ∙ is_same handler t own in same_Some u t same)

  pub task_there : row_of i t < length rows → (u : ℕ) → u ≡ t → task_at i handler (slice_set rows (row_of i t) s) u ≡ s
  task_there lt u e =
      ap (task_at i handler (slice_set rows (row_of i t) s)) e
      ∙ (at_row i handler (slice_set rows (row_of i t) s) t here ∙ get_or-set_at rows (row_of i t) (row_of i t) s (initial_state i t) refl lt)

  -- where another one that is there has its row
  elsewhere : (u : ℕ) → (u ≡ t → ⊥) → IsHere i handler u → task_at i handler (slice_set rows (row_of i t) s) u ≡ task_at i handler rows u
  elsewhere u ne there =
      at_row i handler (slice_set rows (row_of i t) s) u there
      ∙ (get_or-set_other rows (row_of i t) (row_of i u) s (initial_state i u) (apart_here u ne there) ∙ sym (at_row i handler rows u there))

  pub task_elsewhere : (u : ℕ) → (u ≡ t → ⊥) → task_at i handler (slice_set rows (row_of i t) s) u ≡ task_at i handler rows u
  task_elsewhere u ne = ⊎_elim (λ lt. elsewhere u ne (inl lt)) (λ le. by (is_handler handler u) refl le) (cases_lt u (length i.tasks))
    where
      by : (b : Bool) → is_handler handler u ≡ b → length i.tasks ≤ u → task_at i handler (slice_set rows (row_of i t) s) u ≡ task_at i handler rows u
      by true is le = elsewhere u ne (inr is)
      by false is le = at_none i handler (slice_set rows (row_of i t) s) u le is ∙ sym (at_none i handler rows u le is)

  pub task_put : row_of i t < length rows → (u : ℕ) → task_at i handler (slice_set rows (row_of i t) s) u ≡ put t s (task_at i handler rows) u
  task_put lt u =
      ⊎_elim
      (λ e. task_there lt u e ∙ sym (put_same t u s (task_at i handler rows) e))
      (λ ne. task_elsewhere u ne ∙ sym (put_other t u s (task_at i handler rows) ne))
      (same_or_not u t)

-- ---- the handler, by who runs

module _ (i : Sections) (p : Partition) (tasks : p.tasks ≡ length i.tasks) where
  pub beyond_of : (handler running : Option ℕ) → handler ≡ actor_if p running → IsBeyond i handler
  beyond_of handler None is a e = absurd (none-some a (sym is ∙ e))
  beyond_of handler (Some u) is a e = by (is_task p u) refl (sym is ∙ e)
    where
      by : (b : Bool) → is_task p u ≡ b → cond b None (Some u) ≡ Some a → length i.tasks ≤ a
      by true task f = absurd (none-some a f)
      by false task f = let le : p.tasks ≤ u = ltb-false u p.tasks task in let same : u ≡ a = same_Some u a f in omega (arith, le, same, tasks)

  pub there_of : (handler running : Option ℕ) (t : ℕ) → handler ≡ actor_if p running → running ≡ Some t → RunsThere i handler t
  there_of handler running t is runs = record { beyond = beyond_of handler running is; here = by (is_task p t) refl (is ∙ ap (actor_if p) runs) }
    where
      by : (b : Bool) → is_task p t ≡ b → handler ≡ cond b None (Some t) → IsHere i handler t
      by true own e = inl (let lt : t < p.tasks = ltb-true t p.tasks own in omega (arith, lt, tasks))
      by false own e = inr (ap (λ h. is_handler h t) e ∙ eqb_same t t refl)

-- the same of the world that is held, by what the kernel's code tells
pub there_in : (view h : HeldWorld) (t : ℕ) (told : Option ℕ) → view ≡ h → told ≡ view.tasking.handler
    → told ≡ actor_if (kernel_of view.tasking).partition (kernel_of view.tasking).running → (kernel_of h.tasking).partition ≡ partition_of h.image
    → (kernel_of h.tasking).running ≡ Some t → RunsThere h.image h.tasking.handler t
there_in view h t told same is runs partition now =
    there_of h.image (kernel_of h.tasking).partition (ap (λ p. p.tasks) partition) h.tasking.handler (kernel_of h.tasking).running t
    (ap {A = HeldWorld} (λ n. n.tasking.handler) (sym same)
    ∙ (sym is ∙ (runs ∙ ap {A = HeldWorld} (λ n. actor_if (kernel_of n.tasking).partition (kernel_of n.tasking).running) same)))
    now
