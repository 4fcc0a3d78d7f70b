-- What is pending from a time on changes nothing before that time: two kernels that differ in it alone differ in it alone after the same effect, where the
-- clock is still before that time and the run doesn't wait forever.
use Rattle.std.proofs.Common.{◌≡◌, ℕ, zero, suc, ℤ, List, [], ◌∷◌, ◌++◌, Option, Some, None, Bool, true, false, cond, nat_lt, refl, sym, ap, subst, ◌∙◌, arith, rules}
use Rattle.std.specs.Prelude.{int_le, int_lt}
use Rattle.std.proofs.lemmas.Bool.{cond_both}
use Rattle.std.proofs.lemmas.Int.{ints}
use Rattle.base.specs.declared.limits.TheConstants.{PRIORITIES}
use Rattle.kernel.specs.State.{Action, Ended, Interrupt, Kernel, Partition, Reads, Serves, Sleeper, WaitsForever, Writes, active}
use Rattle.kernel.specs.Dispatching.{becomes_ready, dispatch, dispatch_from, highest, leaves, preempted, preempts, runs_from, runs_head}
use Rattle.kernel.specs.Clock.{clock, clock_from, falls_asleep, last_outcome, least, next, next_time, released, some_queued, time_moves, wakes_due, wakes_if_due}
use Rattle.kernel.specs.Interrupts.{delivers, starts}
use Rattle.kernel.specs.Effects.{Breaks, Delays, Dies, Effect, Ends, Finishes, Opens, Queues, Quiet, Says, Views, activated, after, begin, blank, effect, ending_of, ends, goes_if, is_over, outer_of, service}
use Rattle.likeness.specs.Worlds.{IsSure}
use Rattle.likeness.proofs.Onward.{dispatch_same}

abbrev pub with : List Interrupt → Kernel → Kernel
with x k = record k { pending = x }

by_cond : (x : List Interrupt) (b : Bool) (p q v w : Kernel) → p ≡ with x v → q ≡ with x w → cond b p q ≡ with x (cond b v w)
by_cond x true p q v w e f = e
by_cond x false p q v w e f = f

-- ---- what doesn't look at it

module _ (x : List Interrupt) where
  head_apart : (ts : List ℕ) (h : ℕ) (k : Kernel) → runs_head ts h (with x k) ≡ with x (runs_head ts h k)
  head_apart [] h k = refl
  head_apart (t ∷ ts) h k = refl

  from_apart : (o : Option ℕ) (k : Kernel) → runs_from o (with x k) ≡ with x (runs_from o k)
  from_apart None k = refl
  from_apart (Some h) k = head_apart (k.ready h) h k

  preempts_apart : (t : ℕ) (o : Option ℕ) (k : Kernel) → preempts t o (with x k) ≡ with x (preempts t o k)
  preempts_apart t None k = refl
  preempts_apart t (Some h) k =
      by_cond x (nat_lt (active k t) h) (runs_from (Some h) (preempted t (with x k))) (with x k) (runs_from (Some h) (preempted t k)) k
      (from_apart (Some h) (preempted t k)) refl

  dispatch_at : (r o : Option ℕ) (k : Kernel) → highest k.ready PRIORITIES ≡ o → dispatch_from r (with x k) ≡ with x (dispatch_from r k)
  dispatch_at None o k e = from_apart (highest k.ready PRIORITIES) k
  dispatch_at (Some t) o k e = preempts_apart t (highest k.ready PRIORITIES) k

  dispatch_apart : (k : Kernel) → dispatch (with x k) ≡ with x (dispatch k)
  dispatch_apart k = dispatch_at k.running (highest k.ready PRIORITIES) k refl

  wakes_one : (s : Sleeper) (k : Kernel) → wakes_if_due s (with x k) ≡ with x (wakes_if_due s k)
  wakes_one s k = by_cond x (int_lt k.now s.wake) _ _ (record k { sleepers = k.sleepers ++ s ∷ [] }) (becomes_ready s.task (released s.task k)) refl refl

  wakes_apart : (ss : List Sleeper) (k : Kernel) → wakes_due ss (with x k) ≡ with x (wakes_due ss k)
  wakes_apart [] k = refl
  wakes_apart (s ∷ ss) k = ap (wakes_due ss) (wakes_one s k) ∙ wakes_apart ss (wakes_if_due s k)

  activated_apart : (n : ℕ) (k : Kernel) → activated n (with x k) ≡ with x (activated n k)
  activated_apart zero k = refl
  activated_apart (suc n) k = ap (becomes_ready n) (activated_apart n k)

  service_apart : (t o : ℕ) (is_open : Bool) (q : Option ℕ) (outer : List Action) (k : Kernel) → ends t (service is_open o q) outer (with x k)
      ≡ with x (ends t (service is_open o q) outer k)
  service_apart t o false q outer k = refl
  service_apart t o true None outer k = refl
  service_apart t o true (Some u) outer k = refl

  ends_apart : (t : ℕ) (is_open : Bool) (actions : List Action) (k : Kernel)
      → ends t (ending_of is_open actions k.queued) (outer_of actions) (with x k) ≡ with x (ends t (ending_of is_open actions k.queued) (outer_of actions) k)
  ends_apart t is_open [] k = refl
  ends_apart t is_open (Reads o ∷ outer) k = refl
  ends_apart t is_open (Writes o ∷ outer) k = service_apart t o is_open (k.queued o) outer k
  ends_apart t is_open (Serves o u ∷ outer) k = refl

  delays_apart : (t : ℕ) (until : ℤ) (k : Kernel) → effect t (Delays until) (with x k) ≡ with x (effect t (Delays until) k)
  delays_apart t until k =
      by_cond x (int_lt k.now until) (falls_asleep t until (leaves t (with x k))) (becomes_ready t (leaves t (with x k)))
      (falls_asleep t until (leaves t k)) (becomes_ready t (leaves t k)) refl refl

-- such a function leaves it as it is, too
pub kept_by : (g : Kernel → Kernel) → ((x : List Interrupt) (k : Kernel) → g (with x k) ≡ with x (g k)) → (k : Kernel) → (g k).pending ≡ k.pending
kept_by g apart k = ap (λ l. l.pending) (apart k.pending k)

-- ---- the time, which the clock alone moves

wakes_now : (ss : List Sleeper) (k : Kernel) → (wakes_due ss k).now ≡ k.now
wakes_now [] k = refl
wakes_now (s ∷ ss) k =
    wakes_now ss (wakes_if_due s k)
    ∙ cond_both (int_lt k.now s.wake) (record k { sleepers = k.sleepers ++ s ∷ [] }) (becomes_ready s.task (released s.task k)) (λ l. l.now ≡ k.now) (λ h. refl) (λ h. refl)

delivers_now : (is : List Interrupt) (k : Kernel) → (delivers is k).now ≡ k.now
delivers_now [] k = refl
delivers_now (i ∷ is) k = cond_both (int_lt k.now i.time) k (starts i (with is k)) (λ l. l.now ≡ k.now) (λ h. refl) (λ h. refl)

moves_now : (t : ℤ) (k : Kernel) → (time_moves (Some t) k).now ≡ t
moves_now t k =
    let moved : Kernel = record k { now = t; sleepers = [] } in
    let woken : Kernel = wakes_due k.sleepers moved in
    let given : Kernel = delivers woken.pending woken in
    (dispatch_same given.running given).now ∙ (delivers_now woken.pending woken ∙ wakes_now k.sleepers moved)

-- ---- what does, before a time

le_through : (a b c : ℤ) → int_le a b ≡ true → int_le b c ≡ true → int_le a c ≡ true
le_through a b c h i = grind (arith, ints)

lt_le : (a b c : ℤ) → int_lt a b ≡ true → int_le b c ≡ true → int_lt a c ≡ true
lt_le a b c h i = grind (arith, ints)

not_lt : (a b : ℤ) → int_lt a b ≡ false → int_le b a ≡ true
not_lt a b h = grind (arith, ints)

never : (a b : ℤ) → int_lt a b ≡ true → int_le b a ≡ true → ⊥
never a b h i = grind (arith, ints)

-- all of these come at the time or later
abbrev pub AreFrom : ℤ → List Interrupt → Type 0
AreFrom time [] = Unit {0}
AreFrom time (i ∷ is) = (int_le time i.time ≡ true) × AreFrom time is

-- all of these come before it
abbrev pub AreEarly : ℤ → List Interrupt → Type 0
AreEarly time [] = Unit {0}
AreEarly time (i ∷ is) = (int_lt i.time time ≡ true) × AreEarly time is

-- the least of a time that is no earlier and of wake times, where it is earlier, is that of the wake times
far_by : (time a b : ℤ) (s : Sleeper) (ss : List Sleeper) (p q : Bool) → int_lt s.wake a ≡ p → int_lt s.wake b ≡ q → int_le time a ≡ true → int_le time b ≡ true
    → ((c d : ℤ) → int_le time c ≡ true → int_le time d ≡ true → int_lt (least c ss) time ≡ true → least c ss ≡ least d ss)
    → int_lt (cond p (least s.wake ss) (least a ss)) time ≡ true → cond p (least s.wake ss) (least a ss) ≡ cond q (least s.wake ss) (least b ss)
far_by time a b s ss true true e f la lb rest lt = refl
far_by time a b s ss true false e f la lb rest lt = rest s.wake b (le_through time b s.wake lb (not_lt s.wake b f)) lb lt
far_by time a b s ss false true e f la lb rest lt = rest a s.wake la (le_through time a s.wake la (not_lt s.wake a e)) lt
far_by time a b s ss false false e f la lb rest lt = rest a b la lb lt

far : (time a b : ℤ) (ss : List Sleeper) → int_le time a ≡ true → int_le time b ≡ true → int_lt (least a ss) time ≡ true → least a ss ≡ least b ss
far time a b [] la lb lt = absurd (never a time lt la)
far time a b (s ∷ ss) la lb lt =
    far_by time a b s ss (int_lt s.wake a) (int_lt s.wake b) refl refl la lb (λ c d lc ld h. far time c d ss lc ld h) lt

-- kernels that differ in what is pending from a time on
pub record Swapped (time : ℤ) (a b : List Interrupt) (k l : Kernel) : Type 0 where
  pub sooner : List Interrupt
  pub early : AreEarly time sooner
  pub here : k.pending ≡ sooner ++ a
  pub there : l ≡ with (sooner ++ b) k

pub swapped_by : (time : ℤ) (a b : List Interrupt) (g : Kernel → Kernel) → ((x : List Interrupt) (k : Kernel) → g (with x k) ≡ with x (g k)) → (k l : Kernel)
    → Swapped time a b k l → Swapped time a b (g k) (g l)
swapped_by time a b g apart k l s = record {
  sooner = s.sooner;
  early = s.early;
  here = kept_by g apart k ∙ s.here;
  there = ap g s.there ∙ apart (s.sooner ++ b) k;
}

pub swapped_back : (time : ℤ) (a b : List Interrupt) (k l : Kernel) → Swapped time a b k l → Swapped time b a l k
swapped_back time a b k l s = record {
  sooner = s.sooner;
  early = s.early;
  here = ap (λ m. m.pending) s.there;
  there = ap (λ x. with x k) s.here ∙ sym (ap (with (s.sooner ++ a)) s.there);
}

module _ (time : ℤ) (a b : List Interrupt) (from_a : AreFrom time a) (from_b : AreFrom time b) where
  stays_early : (is : List Interrupt) (k : Kernel) → AreFrom time is → int_lt k.now time ≡ true → delivers is k ≡ k
  stays_early [] k from lt = refl
  stays_early (i ∷ is) k from lt = ap (λ t. cond t k (starts i (with is k))) (lt_le k.now time i.time lt from.0)

  delivers_by : (is : List Interrupt) (k : Kernel) → AreEarly time is → int_lt k.now time ≡ true → k.pending ≡ is ++ a
      → Swapped time a b (delivers (is ++ a) k) (delivers (is ++ b) (with (is ++ b) k))
  delivers_by [] k early lt e = record {
    sooner = [];
    early = tt;
    here = ap (λ l. l.pending) (stays_early a k from_a lt) ∙ e;
    there = stays_early b (with b k) from_b lt ∙ ap (with b) (sym (stays_early a k from_a lt));
  }
  delivers_by (i ∷ is) k early lt e = by (int_lt k.now i.time)
    where
      by : (c : Bool) → Swapped time a b (cond c k (starts i (with (is ++ a) k))) (cond c (with (i ∷ is ++ b) k) (starts i (with (is ++ b) k)))
      by true = record { sooner = i ∷ is; early = early; here = e; there = refl }
      by false = record { sooner = is; early = early.1; here = refl; there = refl }

  pub delivers_swapped : (k l : Kernel) → int_lt k.now time ≡ true → Swapped time a b k l → Swapped time a b (delivers k.pending k) (delivers l.pending l)
  delivers_swapped k l lt s =
      subst (λ m. Swapped time a b (delivers k.pending k) (delivers m.pending m)) (sym s.there)
      (subst (λ is. Swapped time a b (delivers is k) (delivers (s.sooner ++ b) (with (s.sooner ++ b) k))) (sym s.here) (delivers_by s.sooner k s.early lt s.here))

  -- the next time, where it is earlier, is the same
  abbrev NextBefore : Option ℤ → Option ℤ → Type 0
  NextBefore o p = (t : ℤ) → o ≡ Some t → int_lt t time ≡ true → p ≡ Some t

  same_time : (s t : ℤ) → Some s ≡ Some t → s ≡ t
  same_time s t e = search (rules, e)

  nobody_sleeps : (is js : List Interrupt) (is_queued : Bool) → AreFrom time is → NextBefore (next_time [] is is_queued) (next_time [] js is_queued)
  nobody_sleeps [] js q from t e lt = absurd cc
  nobody_sleeps (i ∷ is) js true from t e lt = absurd (never t time lt (subst (λ x. int_le time x ≡ true) (same_time i.time t e) from.0))
  nobody_sleeps (i ∷ is) js false from t e lt = absurd cc

  -- the least of wake times, whatever comes later
  least_among : (s : Sleeper) (ss : List Sleeper) (is : List Interrupt) (q : Bool) → AreFrom time is → (t : ℤ) → next_time (s ∷ ss) is q ≡ Some t
      → int_lt t time ≡ true → least s.wake ss ≡ t
  least_among s ss [] q from t e lt = same_time (least s.wake ss) t e
  least_among s ss (i ∷ is) q from t e lt = by (int_lt s.wake i.time) refl (same_time (least i.time (s ∷ ss)) t e)
    where
      by : (b : Bool) → int_lt s.wake i.time ≡ b → cond b (least s.wake ss) (least i.time ss) ≡ t → least s.wake ss ≡ t
      by true f g = g
      by false f g =
          sym (far time i.time s.wake ss from.0 (le_through time i.time s.wake from.0 (not_lt s.wake i.time f)) (subst (λ x. int_lt x time ≡ true) (sym g) lt)) ∙ g

  among_least : (s : Sleeper) (ss : List Sleeper) (is : List Interrupt) (q : Bool) → AreFrom time is → (t : ℤ) → least s.wake ss ≡ t
      → int_lt t time ≡ true → next_time (s ∷ ss) is q ≡ Some t
  among_least s ss [] q from t e lt = ap Some e
  among_least s ss (i ∷ is) q from t e lt = ap Some (by (int_lt s.wake i.time) refl)
    where
      by : (b : Bool) → int_lt s.wake i.time ≡ b → cond b (least s.wake ss) (least i.time ss) ≡ t
      by true f = e
      by false f =
          sym (far time s.wake i.time ss (le_through time i.time s.wake from.0 (not_lt s.wake i.time f)) from.0 (subst (λ x. int_lt x time ≡ true) (sym e) lt)) ∙ e

  next_swapped : (ss : List Sleeper) (is : List Interrupt) (q : Bool) → NextBefore (next_time ss (is ++ a) q) (next_time ss (is ++ b) q)
  next_swapped [] [] q = nobody_sleeps a b q from_a
  next_swapped [] (i ∷ is) true = λ t e lt. e
  next_swapped [] (i ∷ is) false = λ t e lt. e
  next_swapped (s ∷ ss) [] q = λ t e lt. among_least s ss b q from_b t (least_among s ss a q from_a t e lt) lt
  next_swapped (s ∷ ss) (i ∷ is) q = λ t e lt. e

  none_next : (ss : List Sleeper) (is js : List Interrupt) (q : Bool) → next_time ss is q ≡ None → (q ≡ true → ⊥) → next_time ss js q ≡ None
  none_next [] is js true e not = absurd (not refl)
  none_next [] is [] false e not = refl
  none_next [] is (j ∷ js) false e not = refl
  none_next (s ∷ ss) [] js q e not = absurd cc
  none_next (s ∷ ss) (i ∷ is) js q e not = absurd cc

  moves_swapped : (o : Option ℤ) (k : Kernel) (sooner : List Interrupt) → AreEarly time sooner → k.pending ≡ sooner ++ a → next k ≡ o → IsSure time (time_moves o k)
      → Swapped time a b (time_moves o k) (time_moves (next (with (sooner ++ b) k)) (with (sooner ++ b) k))
  moves_swapped None k sooner early here e h =
      let x = sooner ++ b in
      let q = some_queued k.queued k.partition.objects in
      let none : next (with x k) ≡ None = none_next k.sleepers (sooner ++ a) x q (ap (λ is. next_time k.sleepers is q) (sym here) ∙ e) (λ queued. h.on (ap (λ w. Some (cond w WaitsForever Ended)) queued)) in
      subst (λ p. Swapped time a b (time_moves None k) (time_moves p (with x k))) (sym none) (record { sooner = sooner; early = early; here = here; there = refl })
  moves_swapped (Some t) k sooner all here e h =
      let l : Kernel = with (sooner ++ b) k in
      let early : int_lt t time ≡ true = subst (λ x. int_lt x time ≡ true) (moves_now t k) h.now in
      let q = some_queued k.queued k.partition.objects in
      let same : next l ≡ Some t = next_swapped k.sleepers sooner q t (ap (λ is. next_time k.sleepers is q) (sym here) ∙ e) early in
      let moved : Kernel = record k { now = t; sleepers = [] } in
      let other : Kernel = record l { now = t; sleepers = [] } in
      let first : Swapped time a b moved other = record { sooner = sooner; early = all; here = here; there = refl } in
      let awake : Swapped time a b (wakes_due k.sleepers moved) (wakes_due k.sleepers other) =
      swapped_by time a b (wakes_due k.sleepers) (λ x m. wakes_apart x k.sleepers m) moved other first in
      let given = delivers_swapped (wakes_due k.sleepers moved) (wakes_due k.sleepers other) (subst (λ x. int_lt x time ≡ true) (sym (wakes_now k.sleepers moved)) early) awake in
      subst (λ p. Swapped time a b (time_moves (Some t) k) (time_moves p l)) (sym same)
      (swapped_by time a b dispatch dispatch_apart (delivers (wakes_due k.sleepers moved).pending (wakes_due k.sleepers moved)) (delivers (wakes_due k.sleepers other).pending (wakes_due k.sleepers other)) given)

  clock_by : (r : Option ℕ) (k : Kernel) (sooner : List Interrupt) → AreEarly time sooner → k.pending ≡ sooner ++ a → IsSure time (clock_from r k)
      → Swapped time a b (clock_from r k) (clock_from r (with (sooner ++ b) k))
  clock_by (Some t) k sooner early here h = record { sooner = sooner; early = early; here = here; there = refl }
  clock_by None k sooner early here h = moves_swapped (next k) k sooner early here refl h

  clock_swapped : (k l : Kernel) → Swapped time a b k l → IsSure time (clock k) → Swapped time a b (clock k) (clock l)
  clock_swapped k l s h =
      subst (λ m. Swapped time a b (clock k) (clock m)) (sym s.there) (clock_by k.running k s.sooner s.early s.here h)

  -- dispatching and the clock
  settled : (k l : Kernel) → Swapped time a b k l → IsSure time (clock (dispatch k)) → Swapped time a b (clock (dispatch k)) (clock (dispatch l))
  settled k l s h = clock_swapped (dispatch k) (dispatch l) (swapped_by time a b dispatch dispatch_apart k l s) h

  pub begin_swapped : (p : Partition) (sooner : List Interrupt) → AreEarly time sooner → IsSure time (begin p (sooner ++ a)) → Swapped time a b (begin p (sooner ++ a)) (begin p (sooner ++ b))
  begin_swapped p sooner early h =
      settled (activated p.tasks (blank p (sooner ++ a))) (activated p.tasks (blank p (sooner ++ b)))
      (swapped_by time a b (activated p.tasks) (λ x k. activated_apart x p.tasks k) (blank p (sooner ++ a)) (blank p (sooner ++ b))
      (record { sooner = sooner; early = early; here = refl; there = refl }))
      h

  goes_swapped : (over : Bool) (t : ℕ) (k l : Kernel) → int_lt k.now time ≡ true → Swapped time a b k l → Swapped time a b (goes_if over t k) (goes_if over t l)
  goes_swapped false t k l lt s = s
  goes_swapped true t k l lt s = delivers_swapped (leaves t k) (leaves t l) lt (swapped_by time a b (leaves t) (λ x m. refl) k l s)

  ends_now : (t : ℕ) (is_open : Bool) (actions : List Action) (k : Kernel) → (ends t (ending_of is_open actions k.queued) (outer_of actions) k).now ≡ k.now
  ends_now t is_open [] k = refl
  ends_now t is_open (Reads o ∷ outer) k = refl
  ends_now t false (Writes o ∷ outer) k = refl
  ends_now t true (Writes o ∷ outer) k = by (k.queued o)
    where
      by : (q : Option ℕ) → (ends t (service true o q) outer k).now ≡ k.now
      by None = refl
      by (Some u) = refl
  ends_now t is_open (Serves o u ∷ outer) k = refl

  ends_swapped : (t : ℕ) (is_open : Bool) (k l : Kernel) → int_lt k.now time ≡ true → Swapped time a b k l → Swapped time a b (effect t (Ends is_open) k) (effect t (Ends is_open) l)
  ends_swapped t is_open k l lt s =
      let e = ending_of is_open (k.actions t) k.queued in
      let over = is_over k.partition t (k.actions t) e in
      let x = s.sooner ++ b in
      let ended : Kernel = ends t e (outer_of (k.actions t)) k in
      let inner : Swapped time a b ended (ends t e (outer_of (k.actions t)) (with x k)) = record {
        sooner = s.sooner;
        early = s.early;
        here = ap (λ m. m.pending) (ends_apart k.pending t is_open (k.actions t) k) ∙ s.here;
        there = ends_apart x t is_open (k.actions t) k;
      } in
      subst (λ m. Swapped time a b (effect t (Ends is_open) k) (effect t (Ends is_open) m)) (sym s.there)
      (goes_swapped over t ended (ends t e (outer_of (k.actions t)) (with x k)) (subst (λ z. int_lt z time ≡ true) (sym (ends_now t is_open (k.actions t) k)) lt) inner)

  -- a step's effect, dispatching and the clock
  pub after_swapped : (t : ℕ) (e : Effect) (k l : Kernel) → int_lt k.now time ≡ true → Swapped time a b k l → IsSure time (after t e k)
      → Swapped time a b (after t e k) (after t e l)
  after_swapped t Quiet k l lt s h = settled k l s h
  after_swapped t (Says label value) k l lt s h =
      settled (effect t (Says label value) k) (effect t (Says label value) l) (swapped_by time a b (effect t (Says label value)) (λ x m. refl) k l s) h
  after_swapped t (Delays until) k l lt s h =
      settled (effect t (Delays until) k) (effect t (Delays until) l) (swapped_by time a b (effect t (Delays until)) (λ x m. delays_apart x t until m) k l s) h
  after_swapped t (Opens o) k l lt s h = settled (effect t (Opens o) k) (effect t (Opens o) l) (swapped_by time a b (effect t (Opens o)) (λ x m. refl) k l s) h
  after_swapped t (Views o) k l lt s h = settled (effect t (Views o) k) (effect t (Views o) l) (swapped_by time a b (effect t (Views o)) (λ x m. refl) k l s) h
  after_swapped t (Queues o) k l lt s h = settled (effect t (Queues o) k) (effect t (Queues o) l) (swapped_by time a b (effect t (Queues o)) (λ x m. refl) k l s) h
  after_swapped t (Ends is_open) k l lt s h = settled (effect t (Ends is_open) k) (effect t (Ends is_open) l) (ends_swapped t is_open k l lt s) h
  after_swapped t Finishes k l lt s h = settled (effect t Finishes k) (effect t Finishes l) (swapped_by time a b (effect t Finishes) (λ x m. refl) k l s) h
  after_swapped t (Dies x) k l lt s h = swapped_by time a b (effect t (Dies x)) (λ y m. refl) k l s
  after_swapped t Breaks k l lt s h = swapped_by time a b (effect t Breaks) (λ y m. refl) k l s
