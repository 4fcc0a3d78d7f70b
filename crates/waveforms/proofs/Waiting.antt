-- Priorities before the clock moved, and who was inside an object: the tasks among those who are inside it now.
use Rattle.std.proofs.Common.{◌≡◌, ℕ, ℤ, zero, suc, ◌<◌, ◌≤◌, List, [], ◌∷◌, ◌++◌, Some, None, Bool, true, false, refl, sym, ap, ◌∙◌, arith, append_assoc, length, map, slice_get, if◌then◌else◌}
use Rattle.std.proofs.lemmas.Bool.{lt-ltb}
use Rattle.base.specs.declared.limits.TheConstants.{ACTOR, CHANNELS, TASKS}
use Rattle.kernel.specs.Interrupts.{told}
use Rattle.kernel.specs.State.{Action, Kernel, Partition, active, actor, inside, inside_among, is_object_open, is_task, raised}
use Rattle.image.specs.Code.{CodeWorld}
use Rattle.waveforms.specs.Instants.{before_clock, waiting, waiting_world, world_before}
use Rattle.waveforms.specs.Signals.{all_below, components, from_one, shown, shown_object, variable_values}
use Rattle.waveforms.specs.Scopes.{Scopes}

-- but for the time, the kernel at the end of an instant is that of those who wait

inside_timed : (n : ℕ) (time : ℤ) (k : Kernel) (o : ℕ) → inside_among n (before_clock time k) o ≡ inside_among n (waiting k) o
inside_timed zero time k o = refl
inside_timed (suc n) time k o = ap (λ v. v ++ (if is_object_open o ((waiting k).actions n) then n ∷ [] else [])) (inside_timed n time k o)

pub objects_timed : (scopes : Scopes) (time : ℤ) (w : CodeWorld) (count : ℕ) → all_below count (shown_object scopes (world_before time w)) ≡ all_below count (shown_object scopes (waiting_world w))
objects_timed scopes time w count =
    λ j. all_below count
    (λ o. (from_one (shown (waiting w.kernel) (slice_get (inside_timed (suc (actor w.kernel.partition CHANNELS)) time w.kernel o j) 0)) ∷ from_one (w.kernel.queued o) ∷ [])
    ++ variable_values (w.rest.memory.objects o) (components scopes o))

-- those who wait

pub priority_before : (k : Kernel) (t : ℕ) → t < k.partition.tasks → active (waiting k) t ≡ active k t
priority_before k t less = ap (λ b. raised k.partition.ceiling (k.partition.base t) (if b then k.actions t else [])) (lt-ltb t k.partition.tasks less)

abbrev of_tasks : Partition → List ℕ → List ℕ
of_tasks p [] = []
of_tasks p (u ∷ us) = (if is_task p u then u ∷ [] else []) ++ of_tasks p us

joined : (p : Partition) (us vs : List ℕ) → of_tasks p (us ++ vs) ≡ of_tasks p us ++ of_tasks p vs
joined p [] vs = refl
joined p (u ∷ us) vs =
    ap (λ v. (if is_task p u then u ∷ [] else []) ++ v) (joined p us vs) ∙ sym (append_assoc (if is_task p u then u ∷ [] else []) (of_tasks p us) (of_tasks p vs))

module _ (p : Partition) (u : ℕ) where
  kept : (is_open : Bool) → is_task p u ≡ true → (if is_open then u ∷ [] else []) ≡ of_tasks p (if is_open then u ∷ [] else [])
  kept true is = ap (λ t. (if t then u ∷ [] else []) ++ []) (sym is)
  kept false is = refl

  dropped : (is_open : Bool) → is_task p u ≡ false → [] ≡ of_tasks p (if is_open then u ∷ [] else [])
  dropped true is = ap (λ t. (if t then u ∷ [] else []) ++ []) (sym is)
  dropped false is = refl

  one : (b : Bool) (o : ℕ) (actions : List Action) → is_task p u ≡ b →
      (if is_object_open o (if b then actions else []) then u ∷ [] else []) ≡ of_tasks p (if is_object_open o actions then u ∷ [] else [])
  one true o actions is = kept (is_object_open o actions) is
  one false o actions is = dropped (is_object_open o actions) is

inside_tasks : (n : ℕ) (k : Kernel) (o : ℕ) → inside_among n (waiting k) o ≡ of_tasks k.partition (inside_among n k o)
inside_tasks zero k o = refl
inside_tasks (suc n) k o =
    (λ j. inside_tasks n k o j ++ one k.partition n (is_task k.partition n) o (k.actions n) refl j)
    ∙ sym (joined k.partition (inside_among n k o) (if is_object_open o (k.actions n) then n ∷ [] else []))

-- by the first number that is reported of those inside

none_some : (v : ℕ) → None ≡ Some v → ⊥
none_some v is = cc

some_same : (u v : ℕ) → Some u ≡ Some v → u ≡ v
some_same u v is = cc

module _ (k : Kernel) where
  shown_none : (xs : List ℕ) → slice_get (map (told k.partition) xs) 0 ≡ None → shown (waiting k) (slice_get (of_tasks k.partition xs) 0) ≡ None
  shown_none [] is = refl
  shown_none (u ∷ us) is = cc

  some_by : (b : Bool) (u v : ℕ) → is_task k.partition u ≡ b → (if b then u else ACTOR) ≡ v → v < k.partition.tasks → k.partition.tasks ≤ TASKS →
      shown (waiting k) (slice_get ((if b then u ∷ [] else []) ++ []) 0) ≡ Some v
  some_by true u v is same less few = ap (λ t. Some (if t then u else k.partition.tasks)) is ∙ ap (λ w. Some w) same
  some_by false u v is same less few = absurd (omega (arith, same, less, few))

  none_by : (b : Bool) (u v : ℕ) → is_task k.partition u ≡ b → (if b then u else ACTOR) ≡ v → k.partition.tasks ≤ v →
      shown (waiting k) (slice_get ((if b then u ∷ [] else []) ++ []) 0) ≡ None
  none_by true u v is same over = absurd (not_task u v is same over)
    where
      not_task : (u v : ℕ) → is_task k.partition u ≡ true → u ≡ v → k.partition.tasks ≤ v → ⊥
      not_task u v is same over = grind (arith, is, same, over)
  none_by false u v is same over = refl

  shown_some : (xs : List ℕ) (v : ℕ) → length (map (told k.partition) xs) ≤ 1 → slice_get (map (told k.partition) xs) 0 ≡ Some v → v < k.partition.tasks → k.partition.tasks ≤ TASKS →
      shown (waiting k) (slice_get (of_tasks k.partition xs) 0) ≡ Some v
  shown_some [] v short is less few = absurd (none_some v is)
  shown_some (u ∷ []) v short is less few = some_by (is_task k.partition u) u v refl (some_same (told k.partition u) v is) less few
  shown_some (u ∷ w ∷ us) v short is less few = absurd (omega (arith, short))

  shown_over : (xs : List ℕ) (v : ℕ) → length (map (told k.partition) xs) ≤ 1 → slice_get (map (told k.partition) xs) 0 ≡ Some v → k.partition.tasks ≤ v →
      shown (waiting k) (slice_get (of_tasks k.partition xs) 0) ≡ None
  shown_over [] v short is over = absurd (none_some v is)
  shown_over (u ∷ []) v short is over = none_by (is_task k.partition u) u v refl (some_same (told k.partition u) v is) over
  shown_over (u ∷ w ∷ us) v short is over = absurd (omega (arith, short))

  module _ (o : ℕ) (items : List ℕ) (are : items ≡ map (told k.partition) (inside k o)) where
    tasks : inside (waiting k) o ≡ of_tasks k.partition (inside k o)
    tasks = inside_tasks (suc (actor k.partition CHANNELS)) k o

    pub nobody_before : slice_get items 0 ≡ None → shown (waiting k) (slice_get (inside (waiting k) o) 0) ≡ None
    nobody_before is = ap (λ xs. shown (waiting k) (slice_get xs 0)) tasks ∙ shown_none (inside k o) (ap (λ xs. slice_get xs 0) (sym are) ∙ is)

    pub task_before : (v : ℕ) → length items ≤ 1 → slice_get items 0 ≡ Some v → v < k.partition.tasks → k.partition.tasks ≤ TASKS → shown (waiting k) (slice_get (inside (waiting k) o) 0) ≡ Some v
    task_before v short is less few =
        let same : length (map (told k.partition) (inside k o)) ≡ length items = ap (λ xs. length xs) (sym are) in
        ap (λ xs. shown (waiting k) (slice_get xs 0)) tasks ∙ shown_some (inside k o) v (omega (arith, short, same)) (ap (λ xs. slice_get xs 0) (sym are) ∙ is) less few

    pub handler_before : (v : ℕ) → length items ≤ 1 → slice_get items 0 ≡ Some v → k.partition.tasks ≤ v → shown (waiting k) (slice_get (inside (waiting k) o) 0) ≡ None
    handler_before v short is over =
        let same : length (map (told k.partition) (inside k o)) ≡ length items = ap (λ xs. length xs) (sym are) in
        ap (λ xs. shown (waiting k) (slice_get xs 0)) tasks ∙ shown_over (inside k o) v (omega (arith, short, same)) (ap (λ xs. slice_get xs 0) (sym are) ∙ is) over
