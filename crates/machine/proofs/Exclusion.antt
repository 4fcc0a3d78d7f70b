-- That exclusion holds of what the machine's calls answer, from the kernel's invariant.
use Rattle.std.proofs.Common.{◌≡◌, ◌≢◌, ◌⊎◌, inl, inr, ⊎_elim, ℕ, suc, ◌<◌, ◌≤◌, List, [], ◌∷◌, map, Bool, true, false, cond, Option, Some, None, refl, sym, ap, ◌∙◌, subst, arith, ◌||◌}
use Rattle.std.proofs.lemmas.Bool.{cases_lt, eqb-true, le-ltb, lt-ltb, ltb-false}
use Rattle.std.specs.Prelude.{nat_eq, option_map}
use Rattle.base.specs.declared.limits.TheConstants.{ACTOR, CHANNELS, TASKS}
use Rattle.kernel.proofs.Lists.{served_at}
use Rattle.kernel.specs.Exclusion.{FourStatements, IsInside, StandsIn}
use Rattle.kernel.specs.Interrupts.{actor_if, asked, told}
use Rattle.kernel.specs.Invariant.{Busy, IsInsideObject, Sound}
use Rattle.kernel.specs.Laws.{InsideLists}
use Rattle.kernel.specs.PutLaws.{eqb_same}
use Rattle.kernel.specs.State.{Action, Kernel, TaskPlace, IsRunning, IsReady, IsAsleep, IsFinished, IsQueued, IsServed, active, actor, inside, is_object_open, is_task, object_of}
use Rattle.image.specs.Rules.{IsWellFormed}
use Rattle.image.specs.Steps.{is_open}
use Rattle.image_laws.specs.Whole.{IsWhole, RunnerSound}
use Rattle.tasking.specs.Held.{kernel_of}
use Rattle.execution.proofs.Handlers.{handles}
use Rattle.execution.specs.Held.{HeldWorld, world_of}
use Rattle.machine.proofs.Inside.{few_told, one_at_most}
use Rattle.machine.specs.Exclusion.{Excludes, observed}
use Rattle.machine.specs.TaskStates.{active_asked, active_if, place_asked, place_if, state_of}
use Rattle.machine.specs.declared.task_state.TaskState.TheVariants as states

-- ---- open actions

busy_at : (o : ℕ) (l : List Action) → is_object_open o l ≡ true → Busy l
busy_at o [] e = absurd (cc)
busy_at o (a ∷ outer) e = tt

in_any : (o : ℕ) (l : List Action) → is_object_open o l ≡ true → elim l as (λ x. Bool) [ [] ↦ false | a ∷ outer ↦ true ] ≡ true
in_any o [] e = absurd (cc)
in_any o (a ∷ outer) e = refl

open_at : (o : ℕ) (l : List Action) → IsInsideObject o l → is_object_open o l ≡ true
open_at o [] h = absurd h
open_at o (a ∷ outer) h =
    ⊎_elim
    (λ e. ap (λ b. b || is_object_open o outer) (eqb_same (object_of a) o e))
    (λ r. either (nat_eq (object_of a) o) (open_at o outer r))
    h
  where
    either : (b : Bool) → is_object_open o outer ≡ true → b || is_object_open o outer ≡ true
    either true e = refl
    either false e = e

-- ---- lists of numbers

stands_map : (f : ℕ → ℕ) (xs : List ℕ) (t : ℕ) → StandsIn xs t → StandsIn (map f xs) (f t)
stands_map f [] t h = h
stands_map f (x ∷ xs) t h = ⊎_elim (λ e. inl (ap f e)) (λ r. inr (stands_map f xs t r)) h

of_map : (f : ℕ → ℕ) (xs : List ℕ) (n : ℕ) → StandsIn (map f xs) n → (t : ℕ) × (f t ≡ n) × StandsIn xs t
of_map f [] n h = absurd h
of_map f (x ∷ xs) n h = ⊎_elim (λ e. (x, sym e, inl refl)) (λ r. let u = of_map f xs n r in (u.0, u.1, inr u.2)) h

-- ---- states

is_ready : (p : TaskPlace) → state_of p ≡ states.Ready → p ≡ IsReady
is_ready IsReady e = refl
is_ready IsRunning e = absurd (cc)
is_ready IsAsleep e = absurd (cc)
is_ready (IsQueued o) e = absurd (cc)
is_ready (IsServed o) e = absurd (cc)
is_ready IsFinished e = absurd (cc)

is_running : (p : TaskPlace) → state_of p ≡ states.Running → p ≡ IsRunning
is_running IsRunning e = refl
is_running IsReady e = absurd (cc)
is_running IsAsleep e = absurd (cc)
is_running (IsQueued o) e = absurd (cc)
is_running (IsServed o) e = absurd (cc)
is_running IsFinished e = absurd (cc)

waits_at : (o : ℕ) (p : TaskPlace) → state_of p ≡ states.Queued o → (p ≡ IsQueued o) ⊎ (p ≡ IsServed o)
waits_at o (IsQueued p) e = inl cc
waits_at o (IsServed p) e = inr cc
waits_at o IsReady e = absurd (cc)
waits_at o IsRunning e = absurd (cc)
waits_at o IsAsleep e = absurd (cc)
waits_at o IsFinished e = absurd (cc)

-- ---- who is asked for by a number

module _ (k : Kernel) (few : k.partition.tasks ≤ TASKS) where
  -- a task, or the one that runs
  abbrev IsThere : ℕ → Type 0
  IsThere t = (t < k.partition.tasks) ⊎ (k.running ≡ Some t)

  no_task : is_task k.partition ACTOR ≡ false
  no_task = le-ltb ACTOR k.partition.tasks (omega (arith, few))

  asked_told : (t : ℕ) → IsThere t → asked k (told k.partition t) ≡ Some t
  asked_told t there = by (is_task k.partition t) refl
    where
      by : (b : Bool) → is_task k.partition t ≡ b → asked k (cond b t ACTOR) ≡ Some t
      by true e = ap (λ b. cond b (Some t) (cond (nat_eq t ACTOR) (actor_if k.partition k.running) None)) e
      by false e = ⊎_elim
          (λ lt. absurd (let ge = ltb-false t k.partition.tasks e in omega (arith, lt, ge)))
          (λ runs. ap (λ b. cond b (Some ACTOR) (actor_if k.partition k.running)) no_task
          ∙ (ap (actor_if k.partition) runs ∙ ap (λ b. cond b None (Some t)) e))
          there

  told_asked : (n t : ℕ) → asked k n ≡ Some t → told k.partition t ≡ n
  told_asked n t e = by (is_task k.partition n) refl e
    where
      by_actor : (r : Option ℕ) → nat_eq n ACTOR ≡ true → actor_if k.partition r ≡ Some t → told k.partition t ≡ n
      by_actor None m e = absurd (cc)
      by_actor (Some u) m e = by_task (is_task k.partition u) refl e
        where
          by_task : (b : Bool) → is_task k.partition u ≡ b → cond b None (Some u) ≡ Some t → told k.partition t ≡ n
          by_task true i e = absurd (cc)
          by_task false i e =
              let same : u ≡ t = cc in
              ap (λ b. cond b t ACTOR) (ap (is_task k.partition) (sym same) ∙ i) ∙ sym (eqb-true n ACTOR m)

      by_number : (b : Bool) → nat_eq n ACTOR ≡ b → cond b (actor_if k.partition k.running) None ≡ Some t → told k.partition t ≡ n
      by_number true m e = by_actor k.running m e
      by_number false m e = absurd (cc)

      by : (b : Bool) → is_task k.partition n ≡ b → cond b (Some n) (cond (nat_eq n ACTOR) (actor_if k.partition k.running) None) ≡ Some t
          → told k.partition t ≡ n
      by true i e = let same : n ≡ t = cc in ap (λ b. cond b t ACTOR) (ap (is_task k.partition) (sym same) ∙ i) ∙ sym same
      by false i e = by_number (nat_eq n ACTOR) refl e

  place_told : (t : ℕ) → IsThere t → place_asked k (told k.partition t) ≡ k.place t
  place_told t there = ap (place_if k) (asked_told t there)

  active_told : (t : ℕ) → IsThere t → active_asked k (told k.partition t) ≡ active k t
  active_told t there = ap (active_if k) (asked_told t there)

-- ---- the statements

module _ (h : HeldWorld) (well : IsWellFormed h.image) (few : (kernel_of h.tasking).partition.tasks ≤ TASKS) (sound_runner : RunnerSound)
    (lists : InsideLists) (four : FourStatements (is_open h.image (world_of h).rest.memory) (kernel_of h.tasking)) (whole : IsWhole h.image (world_of h)) where
  abbrev k : Kernel
  k = kernel_of h.tasking

  abbrev sound : Sound (is_open h.image (world_of h).rest.memory) k []
  sound = whole.kept.sound

  abbrev number : ℕ → ℕ
  number = told k.partition

  -- who has an action open is a task, or the handler that runs
  there : (t : ℕ) → Busy (k.actions t) → IsThere k few t
  there t busy = ⊎_elim (λ lt. inl lt) (λ ge. inr (beyond ge)) (cases_lt t k.partition.tasks)
    where
      beyond : k.partition.tasks ≤ t → k.running ≡ Some t
      beyond ge = ⊎_elim
          (λ gone. ⊎_elim (λ e. absurd (cc)) (λ e. absurd (cc)) (sound.awake t busy))
          (λ runs. runs)
          (sound.gone t ge)

  runs_there : (t : ℕ) → k.running ≡ Some t → t < suc (actor k.partition CHANNELS)
  runs_there t runs =
      let count = ap (λ p. p.tasks) whole.partition in
      ⊎_elim
      (λ lt. omega (arith, lt, count))
      (λ a. let low = (handles h.image well a.0 a.1 a.3).low in let is = a.2 in omega (arith, is, low, count))
      (sound_runner h.image well (world_of h) t whole runs).0

  below : (t : ℕ) → IsThere k few t → t < suc (actor k.partition CHANNELS)
  below t = ⊎_elim (λ lt. omega (arith, lt)) (λ runs. runs_there t runs)

  listed : (o t : ℕ) → IsInside k o t → StandsIn (inside k o) t
  listed o t is = (lists k o t).1 (below t (there t (busy_at o (k.actions t) is))) is

  -- one of those that the answer lists
  record One (o n : ℕ) : Type 0 where
    t : ℕ
    is : number t ≡ n
    inside : IsInside k o t

  one : (o n : ℕ) → StandsIn (map number (inside k o)) n → One o n
  one o n is = let u = of_map number (inside k o) n is in record { t = u.0; is = u.1; inside = ((lists k o u.0).0 u.2).1 }

  state_told : (t : ℕ) → IsThere k few t → state_of (place_asked k (number t)) ≡ state_of (k.place t)
  state_told t here = ap state_of (place_told k few t here)

  different : (o p t u : ℕ) → StandsIn (map number (inside k o)) t → StandsIn (map number (inside k p)) u → t ≢ u
      → active_asked k t ≢ active_asked k u
  different o p t u is_t is_u other same =
      let a = one o t is_t in
      let b = one p u is_u in
      let a_there = there a.t (busy_at o (k.actions a.t) a.inside) in
      let b_there = there b.t (busy_at p (k.actions b.t) b.inside) in
      let apart : a.t ≢ b.t = λ e. other (sym a.is ∙ (ap number e ∙ b.is)) in
      let actives : active k a.t ≡ active k b.t =
      sym (active_told k few a.t a_there) ∙ (ap (active_asked k) a.is ∙ (same ∙ (ap (active_asked k) (sym b.is) ∙ active_told k few b.t b_there))) in
      four.different a.t b.t apart (in_any o (k.actions a.t) a.inside) (in_any p (k.actions b.t) b.inside) actives

  none_waits : (o n : ℕ) → StandsIn (map number (inside k o)) n → (state_of (place_asked k n) ≡ states.Running) ⊎
      (state_of (place_asked k n) ≡ states.Ready)
  none_waits o n is =
      let a = one o n is in
      let busy = busy_at o (k.actions a.t) a.inside in
      let state = ap (λ m. state_of (place_asked k m)) (sym a.is) ∙ state_told a.t (there a.t busy) in
      ⊎_elim (λ e. inl (state ∙ ap state_of e)) (λ e. inr (state ∙ ap state_of e)) (sound.awake a.t busy)

  record Asks (n : ℕ) (p : TaskPlace) : Type 0 where
    t : ℕ
    is : asked k n ≡ Some t
    place : k.place t ≡ p

  asks : (n : ℕ) (p : TaskPlace) → p ≢ IsFinished → place_asked k n ≡ p → Asks n p
  asks n p other e = by (asked k n) refl e
    where
      by : (a : Option ℕ) → asked k n ≡ a → place_if k a ≡ p → Asks n p
      by None i e = absurd (other (sym e))
      by (Some t) i e = record { t = t; is = i; place = e }

  highest_runs : (n : ℕ) → state_of (place_asked k n) ≡ states.Ready → (r : ℕ) × (option_map number k.running ≡ Some r)
      × (active_asked k n ≤ active_asked k r)
  highest_runs n ready =
      let a = asks n IsReady (λ e. absurd (cc)) (is_ready (place_asked k n) ready) in
      by a k.running refl
    where
      by : Asks n IsReady → (r : Option ℕ) → k.running ≡ r → (r : ℕ) × (option_map number k.running ≡ Some r)
          × (active_asked k n ≤ active_asked k r)
      by a None e = absurd (whole.kept.settled.nobody a.t e a.place)
      by a (Some r) e =
          let mine = ap (active_if k) a.is in
          let runner = active_told k few r (inr e) in
          let low = whole.kept.settled.first r a.t e a.place in
          (number r, ap (option_map number) e, omega (arith, mine, runner, low))

  waits_closed : (o n : ℕ) → state_of (place_asked k n) ≡ states.Queued o → (is_open h.image (world_of h).rest.memory o ≡ false)
      ⊎ ((u : ℕ) × StandsIn (map number (inside k o)) u)
  waits_closed o n waits = ⊎_elim (λ e. queued e) (λ e. served e) (waits_at o (place_asked k n) waits)
    where
      somebody : (u : ℕ) → IsInside k o u → (u : ℕ) × StandsIn (map number (inside k o)) u
      somebody u is = (number u, stands_map number (inside k o) u (listed o u is))

      queued : place_asked k n ≡ IsQueued o → (is_open h.image (world_of h).rest.memory o ≡ false) ⊎ ((u : ℕ) × StandsIn (map number (inside k o)) u)
      queued e =
          let a = asks n (IsQueued o) (λ e. absurd (cc)) e in
          ⊎_elim (λ closed. inl closed) (λ u. inr (somebody u.0 u.1)) (four.queued_closed o a.t (sound.waits o a.t a.place))

      served : place_asked k n ≡ IsServed o → (is_open h.image (world_of h).rest.memory o ≡ false) ⊎ ((u : ℕ) × StandsIn (map number (inside k o)) u)
      served e =
          let a = asks n (IsServed o) (λ e. absurd (cc)) e in
          let by = whole.kept.served a.t o a.place in
          inr (somebody by.0 (open_at o (k.actions by.0) (served_at o a.t (k.actions by.0) by.1)))

  runs : (n : ℕ) → option_map number k.running ≡ Some n → state_of (place_asked k n) ≡ states.Running
  runs n e = by k.running refl e
    where
      by : (r : Option ℕ) → k.running ≡ r → option_map number r ≡ Some n → state_of (place_asked k n) ≡ states.Running
      by None i e = absurd (cc)
      by (Some r) i e =
          let same : number r ≡ n = cc in
          ap (λ m. state_of (place_asked k m)) (sym same) ∙ (state_told r (inr i) ∙ ap state_of (sound.runs r i))

  runner : (n : ℕ) → state_of (place_asked k n) ≡ states.Running → option_map number k.running ≡ Some n
  runner n e =
      let a = asks n IsRunning (λ e. absurd (cc)) (is_running (place_asked k n) e) in
      ap (option_map number) (sound.runner a.t a.place) ∙ ap Some (told_asked k few n a.t a.is)

  task_told : (t : ℕ) → t < k.partition.tasks → number t ≡ t
  task_told t lt = ap (λ b. cond b t ACTOR) (lt-ltb t k.partition.tasks lt)

  inside_one : (o t : ℕ) → t < k.partition.tasks → is_object_open o (k.actions t) ≡ true → StandsIn (map number (inside k o)) t
  inside_one o t lt is = subst (StandsIn (map number (inside k o))) (task_told t lt) (stands_map number (inside k o) t (listed o t is))

  one_of_inside : (o t : ℕ) → t < k.partition.tasks → StandsIn (map number (inside k o)) t → is_object_open o (k.actions t) ≡ true
  one_of_inside o t lt is =
      let a = one o t is in
      let here = asked_told k few a.t (there a.t (busy_at o (k.actions a.t) a.inside)) in
      let mine = asked_told k few t (inl lt) in
      let same : a.t ≡ t = by (sym here ∙ (ap (asked k) (a.is ∙ sym (task_told t lt)) ∙ mine)) in
      subst (IsInside k o) same a.inside
    where
      by : {x y : ℕ} → Some x ≡ Some y → x ≡ y
      by e = cc

  queued_waits : (o n : ℕ) → k.queued o ≡ Some n → state_of (place_asked k n) ≡ states.Queued o
  queued_waits o n e =
      let place = sound.queue o n e in
      ⊎_elim
      (λ lt. subst (λ m. state_of (place_asked k m) ≡ states.Queued o) (task_told n lt) (state_told n (inl lt) ∙ ap state_of place))
      (λ ge. ⊎_elim (λ gone. absurd (cc)) (λ runs. let other = sound.runs n runs in absurd (cc)) (sound.gone n ge))
      (cases_lt n k.partition.tasks)

  pub excludes : Excludes (observed h)
  excludes = record {
    one_inside = λ o. few_told number (inside k o) (one_at_most (is_open h.image (world_of h).rest.memory) k four o (suc (actor k.partition CHANNELS)));
    different = different;
    none_waits = none_waits;
    highest_runs = highest_runs;
    waits_closed = waits_closed;
    runs = runs;
    runner = runner;
    inside_one = inside_one;
    one_of_inside = one_of_inside;
    queued_waits = queued_waits;
  }
