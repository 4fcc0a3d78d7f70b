-- The tasks due: the walk over all sleepers, against those that wake and those that sleep on.
use Rattle.std.proofs.Common.{◌≡◌, ℕ, ◌+◌, ◌<◌, ◌≤◌, ℤ, List, [], ◌∷◌, ◌++◌, Some, Bool, true, false, not, cond, drop, filter, get_or, length, map}
use Rattle.std.proofs.Common.{refl, sym, ap, ◌∙◌, subst, arith, append-nil, append_assoc, drop-cons, add-one}
use Rattle.std.specs.Prelude.{int_le, int_lt, nat_eq}
use Rattle.std.proofs.lemmas.Int.{ints}
use Rattle.base.specs.declared.limits.TheConstants.{PRIORITIES}
use Rattle.clock.specs.declared.delays.Sleeper.{Sleeper as Row}
use Rattle.clock.specs.Sleepers.{due as due_rows, is_due, least as least_of_rows, least_wake, number_of, waiting as waiting_rows, wake_of}
use Rattle.kernel.specs.State.{Kernel, IsFinished, IsReady, Sleeper, active}
use Rattle.kernel.specs.Dispatching.{becomes_ready, leaves}
use Rattle.kernel.specs.Effects.{Delays as DelaysUntil, effect}
use Rattle.std.proofs.lemmas.List.{drop_all}
use Rattle.kernel.specs.Clock.{falls_asleep, least, released, wakes_due}
use Rattle.kernel.specs.Invariant.{count, naps}
use Rattle.kernel.specs.PutLaws.{eqb_same, put_put}
use Rattle.tasking.specs.Held.{Held, kernel_of, sleeper_of, sleepers_of}
use Rattle.tasking.specs.Orderly.{AreAwoken, IsKeptOrderly, IsNowhere, IsOrderly, IsTask, all_ready, due, least_of, waiting}
use Rattle.tasking.specs.Waits.{wake_time}
use Rattle.tasking.proofs.Moved.{handles_same, rows_same}
use Rattle.tasking.proofs.Standing.{active_low, once_low, ready_orderly, ready_standing, task_of}

by_test : (P : Bool → Type 0) (b : Bool) → (b ≡ true → P true) → (b ≡ false → P false) → P b
by_test P true yes' no' = yes' refl
by_test P false yes' no' = no' refl

due_or_not : (a b : ℤ) → int_le a b ≡ not (int_lt b a)
due_or_not a b = by_test (λ c. int_le a b ≡ not c) (int_lt b a) (λ e. grind (arith, ints)) (λ e. grind (arith, ints))

due_go : (b c : Bool) (r : Row) (d : List ℕ) (f : List Row) → c ≡ not b → d ≡ map number_of f → cond b d (r.task ∷ d) ≡ map number_of (cond c (r ∷ f) f)
due_go true true r d f e i = absurd (cc)
due_go true false r d f e i = i
due_go false true r d f e i = ap (λ l. r.task ∷ l) i
due_go false false r d f e i = absurd (cc)

pub due_same : (now : ℤ) (rows : List Row) → due now (sleepers_of rows) ≡ due_rows now rows
due_same now [] = refl
due_same now (r ∷ rows) = due_go (int_lt now r.wake) (int_le r.wake now) r (due now (sleepers_of rows)) (filter (is_due now) rows)
    (due_or_not r.wake now) (due_same now rows)

waiting_go : (b c : Bool) (r : Row) (w : List Sleeper) (f : List Row) → c ≡ not b → w ≡ sleepers_of f → cond b (sleeper_of r ∷ w) w
    ≡ sleepers_of (cond (not c) (r ∷ f) f)
waiting_go true true r w f e i = absurd (cc)
waiting_go true false r w f e i = ap (λ l. sleeper_of r ∷ l) i
waiting_go false true r w f e i = i
waiting_go false false r w f e i = absurd (cc)

pub waiting_same : (now : ℤ) (rows : List Row) → waiting now (sleepers_of rows) ≡ sleepers_of (waiting_rows now rows)
waiting_same now [] = refl
waiting_same now (r ∷ rows) =
    waiting_go (int_lt now r.wake) (int_le r.wake now) r (waiting now (sleepers_of rows)) (waiting_rows now rows) (due_or_not r.wake now)
    (waiting_same now rows)

least_same : (time : ℤ) (rows : List Row) → least time (sleepers_of rows) ≡ least_of_rows time rows
least_same time [] = refl
least_same time (r ∷ rows) = by_test (λ b. cond b (least r.wake (sleepers_of rows)) (least time (sleepers_of rows))
    ≡ cond b (least_of_rows r.wake rows) (least_of_rows time rows)) (int_lt r.wake time) (λ e. least_same r.wake rows) (λ e. least_same time rows)

pub wake_same : (t : ℕ) (rows : List Row) → wake_time t (sleepers_of rows) ≡ wake_of t rows
wake_same t [] = refl
wake_same t (r ∷ rows) = ap (λ w. cond (nat_eq r.task t) (Some r.wake) w) (wake_same t rows)

pub next_same : (rows : List Row) → least_of (sleepers_of rows) ≡ least_wake rows
next_same [] = refl
next_same (r ∷ rows) = ap Some (least_same r.wake rows)

split_go : (b : Bool) (t : ℕ) (s : Sleeper) (w : List Sleeper) (d : List ℕ) (n : ℕ) → naps t w + count t d ≡ n
    → naps t (cond b (s ∷ w) w) + count t (cond b d (s.task ∷ d)) ≡ naps t (s ∷ []) + n
split_go true t s w d n e = omega arith
split_go false t s w d n e = omega arith

naps_split : (t : ℕ) (now : ℤ) (ss : List Sleeper) → naps t (waiting now ss) + count t (due now ss) ≡ naps t ss
naps_split t now [] = refl
naps_split t now (s ∷ ss) = let i = split_go (int_lt now s.wake) t s (waiting now ss) (due now ss) (naps t ss) (naps_split t now ss) in omega arith

-- those due are nowhere, each once
pub awoken : (k : Kernel) (now : ℤ) → IsOrderly k → AreAwoken (record k { now = now; sleepers = waiting now k.sleepers }) (due now k.sleepers)
awoken k now o t = let i = o.2 t in let s = naps_split t now k.sleepers in omega arith

pub expired_orderly : (k : Kernel) (now : ℤ) → IsOrderly k → IsOrderly (record k { now = now; sleepers = waiting now k.sleepers })
expired_orderly k now o = (o.0, o.1, λ t. let i = o.2 t in let s = naps_split t now k.sleepers in omega arith)

-- the walk over all sleepers
walked_ready : (t : ℕ) (k : Kernel) (ss : List Sleeper) → record (becomes_ready t (released t k)) { sleepers = ss }
    ≡ becomes_ready t (record k { sleepers = ss })
walked_ready t k ss = λ i. record (becomes_ready t k) { sleepers = ss; place = λ u. put_put t IsReady IsFinished k.place u i }

pub walked : (ss : List Sleeper) (k : Kernel) → wakes_due ss k ≡ all_ready (due k.now ss) (record k { sleepers = k.sleepers ++ waiting k.now ss })
walked [] k = ap (λ l. record k { sleepers = l }) (sym (append-nil k.sleepers))
walked (s ∷ ss) k =
    by_test
    (λ b. wakes_due ss (cond b (record k { sleepers = k.sleepers ++ s ∷ [] }) (becomes_ready s.task (released s.task k)))
    ≡ all_ready (cond b (due k.now ss) (s.task ∷ due k.now ss)) (record k { sleepers = k.sleepers ++ cond b (s ∷ waiting k.now ss) (waiting k.now ss) }))
    (int_lt k.now s.wake)
    (λ e. walked ss (record k { sleepers = k.sleepers ++ s ∷ [] })
    ∙ ap (λ l. all_ready (due k.now ss) (record k { sleepers = l })) (append_assoc k.sleepers (s ∷ []) (waiting k.now ss)))
    (λ e. walked ss (becomes_ready s.task (released s.task k)) ∙ ap (all_ready (due k.now ss)) (walked_ready s.task k (k.sleepers ++ waiting k.now ss)))

-- one more of them is ready
pub next_nowhere : (k : Kernel) (t : ℕ) (ts : List ℕ) → AreAwoken k (t ∷ ts) → IsTask k t × IsNowhere k t
next_nowhere k t ts a =
    let i = a t in
    let one : count t (t ∷ ts) ≡ 1 + count t ts = ap (λ v. cond v 1 0 + count t ts) (eqb_same t t refl) in
    let low = once_low k t in
    (task_of k t (omega arith), omega arith)

pub next_awoken : (k : Kernel) (t : ℕ) (ts : List ℕ) → active k t < PRIORITIES → AreAwoken k (t ∷ ts) → AreAwoken (becomes_ready t k) ts
next_awoken k t ts low a u = let i = a u in let s = ready_standing k t u low in omega arith

-- what the keeper of sleepers promises, seen as the kernel
module _ (h old : Held) (same : h ≡ old) (kept : IsKeptOrderly h) (time held : ℤ) (time_same : held ≡ time) where
  module _ (rows : List Row) (left : rows ≡ waiting_rows held h.sleepers) where
    rows_are : sleepers_of rows ≡ waiting time (sleepers_of h.sleepers)
    rows_are = ap sleepers_of (left ∙ ap (λ n. waiting_rows n h.sleepers) time_same) ∙ sym (waiting_same time h.sleepers)

    pub expired_kept : IsKeptOrderly (record h { sleepers = rows; time = held })
    expired_kept = record {
      orderly = subst (λ ss. IsOrderly (record (kernel_of h) { sleepers = ss })) (sym rows_are) (expired_orderly (kernel_of h) time kept.orderly);
      rows = rows_same h (record h { sleepers = rows; time = held }) kept.rows;
      handles = handles_same h (record h { sleepers = rows; time = held }) kept.handles;
    }

    pub expired_is : kernel_of (record h { sleepers = rows; time = held })
        ≡ record (kernel_of old) { now = time; sleepers = waiting time (kernel_of old).sleepers }
    expired_is = (λ i. record (kernel_of h) { now = time_same i; sleepers = rows_are i })
        ∙ ap (λ v. record (kernel_of v) { now = time; sleepers = waiting time (kernel_of v).sleepers }) same

  module _ (tasks : List ℕ) (due_are : tasks ≡ due_rows held h.sleepers) where
    tasks_here : tasks ≡ due time (sleepers_of h.sleepers)
    tasks_here = due_are ∙ (ap (λ n. due_rows n h.sleepers) time_same ∙ sym (due_same time h.sleepers))

    pub expired_tasks : tasks ≡ due time (kernel_of old).sleepers
    expired_tasks = tasks_here ∙ ap (λ v. due time (sleepers_of v.sleepers)) same

  pub expired_awoken : (rows : List Row) → rows ≡ waiting_rows held h.sleepers → (tasks : List ℕ) → tasks ≡ due_rows held h.sleepers
      → AreAwoken (kernel_of (record h { sleepers = rows; time = held })) tasks
  expired_awoken rows left tasks due_are =
      subst (λ ss. AreAwoken (record (kernel_of h) { sleepers = ss }) tasks) (sym (rows_are rows left))
      (subst (λ ts. AreAwoken (record (kernel_of h) { sleepers = waiting time (kernel_of h).sleepers }) ts) (sym (tasks_here tasks due_are))
      (awoken (kernel_of h) time kept.orderly))

-- a turn of the loop over those due
rest_is : (xs : List ℕ) (i d : ℕ) → i < length xs → get_or xs i d ∷ drop (i + 1) xs ≡ drop i xs
rest_is xs i d h = rw (add-one, drop-cons xs i d) refl

pub turn_nowhere : (xs : List ℕ) (i d : ℕ) (k : Kernel) → i < length xs → AreAwoken k (drop i xs) → IsTask k (get_or xs i d) × IsNowhere k (get_or xs i d)
turn_nowhere xs i d k h a = next_nowhere k (get_or xs i d) (drop (i + 1) xs) (subst (AreAwoken k) (sym (rest_is xs i d h)) a)

pub turn_awoken : (xs : List ℕ) (i d : ℕ) (k new : Kernel) → i < length xs → new ≡ becomes_ready (get_or xs i d) k → AreAwoken k (drop i xs) → IsOrderly k
    → (all_ready (drop (i + 1) xs) new ≡ all_ready (drop i xs) k) × (AreAwoken new (drop (i + 1) xs) × IsOrderly new)
turn_awoken xs i d k new h e a o =
    let t = get_or xs i d in
    let b = subst (AreAwoken k) (sym (rest_is xs i d h)) a in
    let n = next_nowhere k t (drop (i + 1) xs) b in (
      ap (all_ready (drop (i + 1) xs)) e ∙ ap (λ l. all_ready l k) (rest_is xs i d h),
      (
        subst (λ k'. AreAwoken k' (drop (i + 1) xs)) (sym e) (next_awoken k t (drop (i + 1) xs) (active_low k t o) b),
        subst IsOrderly (sym e) (ready_orderly k t n.0 n.1 o),
      ),
    )

pub all_woken : (old : Kernel) (time : ℤ) (xs : List ℕ) (i : ℕ) (k begun : Kernel) → length xs ≤ i → all_ready (drop i xs) k ≡ all_ready xs begun → xs
    ≡ due time old.sleepers
    → begun ≡ record old { now = time; sleepers = waiting time old.sleepers } → k ≡ wakes_due old.sleepers (record old { now = time; sleepers = [] })
all_woken old time xs i k begun past e tasks left =
    ap (λ l. all_ready l k) (sym (drop_all i xs past))
    ∙ (e ∙ (ap (λ l. all_ready l begun) tasks
    ∙ (ap (all_ready (due time old.sleepers)) left ∙ sym (walked old.sleepers (record old { now = time; sleepers = [] })))))

-- whoever is ready again was nowhere in between
pub again_ready : (t : ℕ) (k : Kernel) → becomes_ready t k ≡ becomes_ready t (released t k)
again_ready t k = λ i. record (becomes_ready t k) { place = λ u. sym (put_put t IsReady IsFinished k.place u) i }

pub late_is : (k : Kernel) (t : ℕ) (until : ℤ) → int_lt k.now until ≡ false → becomes_ready t (leaves t k) ≡ effect t (DelaysUntil until) k
late_is k t until e = sym (ap (λ b. cond b (falls_asleep t until (leaves t k)) (becomes_ready t (leaves t k))) e)
