-- The clock keeps a kernel sound and settled; where nobody runs after it, the run is over.
use Rattle.std.proofs.Common.{◌≡◌, ◌≢◌, ◌⊎◌, inl, inr, ℕ, ◌+◌, ◌<◌, ◌≤◌, ℤ, List, [], ◌∷◌, ◌++◌, Option, Some, None, Bool, true, false, cond, refl, sym, ap, ◌∙◌, subst, ⊎_elim, arith}
use Rattle.std.specs.Prelude.{int_lt}
use Rattle.std.proofs.lemmas.Int.{ints}
use Rattle.base.specs.declared.limits.TheConstants.{PRIORITIES}
use Rattle.kernel.specs.State.{Interrupt, Kernel, TaskPlace, IsRunning, IsReady, IsAsleep, IsQueued, IsServed, IsFinished, Sleeper, actor, put}
use Rattle.kernel.specs.Dispatching.{becomes_ready, highest, runs_head, runs_from, dispatch_from, dispatch}
use Rattle.kernel.specs.Clock.{released, least, wakes_if_due, wakes_due, some_queued, last_outcome, next_time, next, time_moves, clock_from, clock}
use Rattle.kernel.specs.Interrupts.{delivers}
use Rattle.kernel.specs.Invariant.{Busy, naps, asleep, Sound, Settled, HandlesWithin, Kept}
use Rattle.kernel.specs.Laws.{Delivers, SettlesTo}
use Rattle.kernel.specs.PutLaws.{eqb_same, eqb_other, put_same, by_put}
use Rattle.kernel.proofs.Lists.{naps_append, either}
use Rattle.kernel.proofs.Moves.{beside, waiting_task, ready_sound, released_sound}
use Rattle.kernel.proofs.Dispatch.{no_ready, highest_is, handler_still, dispatch_sound}
use Rattle.kernel.proofs.Served.{Serv, dispatch_serv, wakes_all_serv}
use Rattle.kernel.proofs.Unmoved.{dispatch_alike, woken_alike}
use Rattle.kernel.proofs.Settling.{alike_settles, delivers_settles, settles_alike, settles_from}
use Rattle.kernel.proofs.Interrupts.{HasCome, delivers_sound, delivers_serv, delivers_within, delivers_first, come_runs}

asleep_is : (w : TaskPlace) → 0 < asleep w → w ≡ IsAsleep
asleep_is IsAsleep lt = refl
asleep_is IsRunning lt = absurd (omega arith)
asleep_is IsReady lt = absurd (omega arith)
asleep_is (IsQueued o) lt = absurd (omega arith)
asleep_is (IsServed o) lt = absurd (omega arith)
asleep_is IsFinished lt = absurd (omega arith)

asleep_one : (w : TaskPlace) → asleep w ≤ 1
asleep_one IsAsleep = omega arith
asleep_one IsRunning = omega arith
asleep_one IsReady = omega arith
asleep_one (IsQueued o) = omega arith
asleep_one (IsServed o) = omega arith
asleep_one IsFinished = omega arith

wakes_sound : (b : ℕ → Bool) (x : Sleeper) (ss : List Sleeper) (k : Kernel) → Sound b k (x ∷ ss) → Sound b (wakes_if_due x k) ss
wakes_sound b x ss k s =
    let t = x.task in
    let same : (u : ℕ) → u ≡ t → naps u (x ∷ ss) ≡ 1 + naps u ss = λ u e. ap (λ v. cond v 1 0 + naps u ss) (eqb_same u t e) in
    let other : (u : ℕ) → u ≢ t → naps u (x ∷ ss) ≡ 0 + naps u ss = λ u e. ap (λ v. cond v 1 0 + naps u ss) (eqb_other u t e) in
    let here : k.place t ≡ IsAsleep = let n = s.naps_once t in let m = same t refl in asleep_is (k.place t) (omega arith) in
    let later : Sound b (record k { sleepers = k.sleepers ++ x ∷ [] }) ss = beside b k (x ∷ ss) ss (k.sleepers ++ x ∷ []) k.now k.lines k.outcome (λ u. let c = naps_append u k.sleepers (x ∷ []) in omega arith) s in
    let free : Sound b (released t k) ss =
    released_sound b k (x ∷ ss) ss t IsAsleep here (λ e. cc) (λ e. cc) (λ o e. cc) (λ v o h. let i = (s.serving v o t h).0 in cc)
    (λ u.
    by_put (λ w. naps u k.sleepers + naps u ss ≡ asleep w) t u IsFinished k.place
    (λ e. let n = s.naps_once u in let m = same u e in let one = asleep_one (k.place u) in omega arith)
    (λ ne. let n = s.naps_once u in let m = other u ne in omega arith))
    s in
    either (λ y. Sound b y ss) (int_lt k.now x.wake) (record k { sleepers = k.sleepers ++ x ∷ [] }) (becomes_ready t (released t k)) later (ready_sound b (released t k) ss t (waiting_task b k (x ∷ ss) t IsAsleep here (λ e. cc) (λ e. cc) s) (put_same t t IsFinished k.place refl) free)

wakes_all_sound : (b : ℕ → Bool) (ss : List Sleeper) (k : Kernel) → Sound b k ss → Sound b (wakes_due ss k) []
wakes_all_sound b [] k s = s
wakes_all_sound b (x ∷ ss) k s = wakes_all_sound b ss (wakes_if_due x k) (wakes_sound b x ss k s)

-- some sleeper is due
abbrev Due : ℤ → List Sleeper → Type 0
Due now [] = ⊥
Due now (s ∷ ss) = (int_lt now s.wake ≡ false) ⊎ Due now ss

not_below : (n : ℤ) → int_lt n n ≡ false
not_below n = grind (arith, ints)

least_due : (ss : List Sleeper) (n : ℤ) → (int_lt (least n ss) n ≡ false) ⊎ Due (least n ss) ss
least_due [] n = inl (not_below n)
least_due (s ∷ ss) n =
    either (λ m. (int_lt m n ≡ false) ⊎ ((int_lt m s.wake ≡ false) ⊎ Due m ss)) (int_lt s.wake n) (least s.wake ss) (least n ss)
    (inr (least_due ss s.wake))
    (⊎_elim (λ e. inl e) (λ d. inr (inr d)) (least_due ss n))

ready_stays : (ss : List Sleeper) (k : Kernel) (u : ℕ) → k.place u ≡ IsReady → (wakes_due ss k).place u ≡ IsReady
ready_stays [] k u e = e
ready_stays (x ∷ ss) k u e =
    ready_stays ss (wakes_if_due x k) u
    (either (λ l. l.place u ≡ IsReady) (int_lt k.now x.wake) (record k { sleepers = k.sleepers ++ x ∷ [] }) (becomes_ready x.task (released x.task k)) e
    (by_put (λ w. w ≡ IsReady) x.task u IsReady (put x.task IsFinished k.place) (λ i. refl) (λ ne. by_put (λ w. w ≡ IsReady) x.task u IsFinished k.place (λ i. absurd (ne i)) (λ ne'. e))))

nobody_runs : (ss : List Sleeper) (k : Kernel) → (wakes_due ss k).running ≡ k.running
nobody_runs [] k = refl
nobody_runs (x ∷ ss) k =
    nobody_runs ss (wakes_if_due x k)
    ∙ either (λ l. l.running ≡ k.running) (int_lt k.now x.wake) (record k { sleepers = k.sleepers ++ x ∷ [] }) (becomes_ready x.task (released x.task k)) refl refl

due_ready : (ss : List Sleeper) (k : Kernel) → Due k.now ss → (u : ℕ) × ((wakes_due ss k).place u ≡ IsReady)
due_ready [] k d = absurd d
due_ready (x ∷ ss) k d =
    ⊎_elim
    (λ e.
    let is : wakes_if_due x k ≡ becomes_ready x.task (released x.task k) = ap (λ c. cond c (record k { sleepers = k.sleepers ++ x ∷ [] }) (becomes_ready x.task (released x.task k))) e in
    (x.task, ready_stays ss (wakes_if_due x k) x.task (ap (λ l. l.place x.task) is ∙ put_same x.task x.task IsReady (put x.task IsFinished k.place) refl)))
    (λ r.
    let same : (wakes_if_due x k).now ≡ k.now = either (λ l. l.now ≡ k.now) (int_lt k.now x.wake) (record k { sleepers = k.sleepers ++ x ∷ [] }) (becomes_ready x.task (released x.task k)) refl refl in
    due_ready ss (wakes_if_due x k) (subst (λ n. Due n ss) (sym same) r))
    d

-- where a task is ready, somebody runs after dispatching
somebody_at : (b : ℕ → Bool) (k : Kernel) (o : Option ℕ) → Sound b k [] → k.running ≡ None → highest k.ready PRIORITIES ≡ o → (u : ℕ) → k.place u ≡ IsReady → (dispatch k).running ≢ None
somebody_at b k None s e eo u i none = absurd (no_ready b k [] s eo u i)
somebody_at b k (Some h) s e eo u i none =
    let at = highest_is k.ready PRIORITIES h eo in
    let is : dispatch k ≡ runs_head (at.first ∷ at.rest) h k = ap (λ r. dispatch_from r k) e ∙ (ap (λ o. runs_from o k) eo ∙ ap (λ l. runs_head l h k) at.here) in
    let there = ap (λ l. l.running) is in
    absurd (cc)

-- what is to come at the next time: the first interrupt, or the end of a delay
comes : (ss : List Sleeper) (is : List Interrupt) (is_queued : Bool) (n : ℤ) → next_time ss is is_queued ≡ Some n → HasCome n is ⊎ Due n ss
comes [] [] is_queued n e = absurd (cc)
comes [] (i ∷ is) true n e = let same : i.time ≡ n = cc in inl (subst (λ m. int_lt m i.time ≡ false) same (not_below i.time))
comes [] (i ∷ is) false n e = absurd (cc)
comes (s ∷ ss) [] is_queued n e =
    let same : least s.wake ss ≡ n = cc in
    inr (subst (λ m. Due m (s ∷ ss)) same (⊎_elim (λ h. inl h) (λ h. inr h) (least_due ss s.wake)))
comes (s ∷ ss) (i ∷ is) is_queued n e =
    let same : least i.time (s ∷ ss) ≡ n = cc in
    subst (λ m. (int_lt m i.time ≡ false) ⊎ Due m (s ∷ ss)) same (least_due (s ∷ ss) i.time)

-- time moves where nobody runs
module _ (b : ℕ → Bool) (k : Kernel) (none : k.running ≡ None) (s : Sound b k []) (st : Settled k) (n : ℤ) where
  abbrev moved_to : Kernel
  moved_to = record k { now = n; sleepers = [] }

  abbrev woken : Kernel
  woken = wakes_due k.sleepers moved_to

  abbrev told_first : Kernel
  told_first = delivers woken.pending woken

  free : woken.running ≡ None
  free = nobody_runs k.sleepers moved_to ∙ none

  awake : Sound b woken []
  awake =
      let start : Sound b moved_to k.sleepers = beside b k [] k.sleepers [] n k.lines k.outcome (λ t. omega arith) s in
      wakes_all_sound b k.sleepers moved_to start

  nobody_within : (u : ℕ) → Busy (woken.actions u) → ⊥
  nobody_within u busy =
      let was : Busy (k.actions u) = subst (λ f. Busy (f u)) (woken_alike k.sleepers moved_to).actions busy in
      ⊎_elim (λ i. let j = s.runner u i in absurd (cc)) (λ i. st.nobody u none i) (s.awake u was)

  delivered : Sound b told_first []
  delivered = delivers_sound b woken [] free awake woken.pending awake.attached (λ u busy. absurd (nobody_within u busy))

  -- a handler that begins is not preempted
  runs_first : (i : Interrupt) → Delivers woken told_first i → dispatch told_first ≡ told_first
  runs_first i d = handler_still b told_first [] (actor told_first.partition i.channel) d.handled (omega arith) delivered

  runs_somebody : next k ≡ Some n → (dispatch told_first).running ≢ None
  runs_somebody e over =
      let same = woken_alike k.sleepers moved_to in
      ⊎_elim
      (λ idle.
      let over' : (dispatch woken).running ≡ None = ap (λ l. (dispatch l).running) (sym idle) ∙ over in
      ⊎_elim
      (λ come.
      let here : HasCome woken.now woken.pending = subst (λ m. HasCome m woken.pending) (sym same.now) (subst (HasCome n) (sym same.pending) come) in
      let w = come_runs woken.pending woken here in
      let there : told_first.running ≡ woken.running = ap (λ l. l.running) idle in
      let no : Some w.0 ≡ None = sym w.1 ∙ (there ∙ free) in
      absurd (cc))
      (λ due.
      let w = due_ready k.sleepers moved_to due in
      somebody_at b woken _ awake free refl w.0 w.1 over')
      (comes k.sleepers k.pending (some_queued k.queued k.partition.objects) n e))
      (λ w.
      let stays : (dispatch told_first).running ≡ told_first.running = ap (λ l. l.running) (runs_first w.0 w.1) in
      let no : Some (actor told_first.partition w.0.channel) ≡ None = sym w.1.handled ∙ (sym stays ∙ over) in
      absurd (cc))
      (delivers_first woken.pending woken refl)

  moved_kept : next k ≡ Some n → Serv k → Kept b (dispatch told_first)
  moved_kept e sv =
      let serv : Serv woken = wakes_all_serv k.sleepers moved_to sv in
      let end = dispatch_sound b told_first [] delivered in
      record {
        sound = end.0;
        settled = end.1;
        served = dispatch_serv told_first (delivers_serv b woken [] free awake woken.pending awake.attached serv);
        within = end.2 (delivers_within woken.pending woken free);
        over = λ over. absurd (runs_somebody e over);
      }

  pub moved_delivers : ((time_moves (Some n) k).pending ≡ k.pending) ⊎ ((i : Interrupt) × Delivers k (time_moves (Some n) k) i)
  moved_delivers =
      let same : woken.pending ≡ k.pending = (woken_alike k.sleepers moved_to).pending in
      ⊎_elim
      (λ idle. inl ((dispatch_alike told_first).pending ∙ (ap (λ l. l.pending) idle ∙ same)))
      (λ w.
      let i = w.0 in
      let d = w.1 in
      let told : Delivers k told_first i = record { first = sym same ∙ d.first; due = d.due; handled = d.handled } in
      inr (i, subst (λ l. Delivers k l i) (sym (runs_first i d)) told))
      (delivers_first woken.pending woken refl)

  pub moved_settles : SettlesTo k (time_moves (Some n) k)
  moved_settles =
      let told : SettlesTo woken (dispatch told_first) =
      settles_alike woken told_first (dispatch told_first) (delivers_settles b woken free awake woken.pending refl) (dispatch_alike told_first) in
      let all : SettlesTo moved_to (dispatch told_first) = alike_settles moved_to woken (dispatch told_first) (woken_alike k.sleepers moved_to) told in
      settles_from moved_to k (dispatch told_first) refl refl refl refl all

time_kept : (b : ℕ → Bool) (k : Kernel) (o : Option ℤ) → k.running ≡ None → next k ≡ o → Sound b k [] → Settled k → Serv k → Kept b (time_moves o k)
time_kept b k None r e s st sv = record {
  sound = beside b k [] [] k.sleepers k.now k.lines (Some (last_outcome k)) (λ t. refl) s;
  settled = record { first = st.first; nobody = st.nobody };
  served = sv;
  within = λ u le i. absurd (cc);
  over = λ none. (e, refl);
}
time_kept b k (Some n) r e s st sv = moved_kept b k r s st n e sv

clock_kept_at : (b : ℕ → Bool) (k : Kernel) (r : Option ℕ) → k.running ≡ r → Sound b k [] → Settled k → Serv k → HandlesWithin k → Kept b (clock_from r k)
clock_kept_at b k (Some t) e s st sv w = record { sound = s; settled = st; served = sv; within = w; over = λ none. absurd (cc) }
clock_kept_at b k None e s st sv w = time_kept b k (next k) e refl s st sv

-- dispatching and the clock, from any sound kernel
pub finish : (b : ℕ → Bool) (k : Kernel) → Sound b k [] → Serv k → HandlesWithin k → Kept b (clock (dispatch k))
finish b k s sv w =
    let e = dispatch_sound b k [] s in
    clock_kept_at b (dispatch k) (dispatch k).running refl e.0 e.1 (dispatch_serv k sv) (e.2 w)
