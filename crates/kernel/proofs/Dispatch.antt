-- Dispatching keeps a kernel sound, and settles it.
use Rattle.std.proofs.Common.{◌≡◌, ◌≢◌, ◌⊎◌, inl, inr, ℕ, zero, suc, ◌+◌, ◌<◌, ◌≤◌, List, [], ◌∷◌, Option, Some, None, Bool, cond, eqb, refl, sym, ap, ◌∙◌, subst, ⊎_elim, arith}
use Rattle.std.proofs.lemmas.Bool.{le-ltb, lt-ltb, cases_lt}
use Rattle.base.specs.declared.limits.TheConstants.{PRIORITIES}
use Rattle.kernel.specs.State.{Kernel, IsRunning, IsReady, IsQueued, IsServed, IsFinished, Sleeper, active, raised, put}
use Rattle.kernel.specs.Dispatching.{unless_empty, highest, runs_head, runs_from, preempted, preempts, dispatch_from, dispatch}
use Rattle.kernel.specs.Invariant.{Busy, count, naps, listed, asleep, Sound, Settled, HandlesWithin}
use Rattle.kernel.specs.PutLaws.{eqb_same, eqb_other, put_other, by_put, of_put}
use Rattle.kernel.proofs.Lists.{base_raised, busy_or_idle}
use Rattle.kernel.proofs.Places.{ready_unlisted, listed_one, listed_at, napping, in_list, ready_if, at_level, low}
use Rattle.kernel.proofs.Moves.{waiting_task, preempted_sound}

pub record Highest (r : ℕ → List ℕ) (n h : ℕ) : Type 0 where
  pub first : ℕ
  pub rest : List ℕ
  pub here : r h ≡ first ∷ rest
  pub above : (m : ℕ) → h < m → m < n → r m ≡ []
  pub below : h < n

highest_next : (r : ℕ → List ℕ) (n h : ℕ) (l : List ℕ) → r n ≡ l → highest r (suc n) ≡ Some h → (highest r n ≡ Some h → Highest r n h) → Highest r (suc n) h
highest_next r n h [] x e lower =
    let i = lower (sym (ap (λ l. unless_empty l n (highest r n)) x) ∙ e) in
    record {
      first = i.first;
      rest = i.rest;
      here = i.here;
      above = λ m lt lt'. ⊎_elim (λ less. i.above m lt less) (λ ge. let same : m ≡ n = omega arith in ap r same ∙ x) (cases_lt m n);
      below = omega (arith, i.below);
    }
highest_next r n h (t ∷ ts) x e lower =
    let same : Some n ≡ Some h = sym (ap (λ l. unless_empty l n (highest r n)) x) ∙ e in
    let is : n ≡ h = cc in
    record { first = t; rest = ts; here = ap r (sym is) ∙ x; above = λ m lt lt'. absurd (omega arith); below = omega arith }

pub highest_is : (r : ℕ → List ℕ) (n h : ℕ) → highest r n ≡ Some h → Highest r n h
highest_is r zero h e = absurd cc
highest_is r (suc n) h e = highest_next r n h (r n) refl e (highest_is r n h)

highest_none_next : (r : ℕ → List ℕ) (n : ℕ) (l : List ℕ) → r n ≡ l → highest r (suc n) ≡ None → (highest r n ≡ None → (m : ℕ) → m < n → r m ≡ []) → (m : ℕ) → m < suc n → r m ≡ []
highest_none_next r n [] x e lower m lt =
    ⊎_elim (λ less. lower (sym (ap (λ l. unless_empty l n (highest r n)) x) ∙ e) m less) (λ ge. let same : m ≡ n = omega arith in ap r same ∙ x) (cases_lt m n)
highest_none_next r n (t ∷ ts) x e lower m lt =
    let bad : Some n ≡ None = sym (ap (λ l. unless_empty l n (highest r n)) x) ∙ e in absurd (cc)

highest_none : (r : ℕ → List ℕ) (n : ℕ) → highest r n ≡ None → (m : ℕ) → m < n → r m ≡ []
highest_none r zero e m lt = absurd (omega arith)
highest_none r (suc n) e m lt = highest_none_next r n (r n) refl e (highest_none r n) m lt

module _ (b : ℕ → Bool) (k : Kernel) (p : List Sleeper) (s : Sound b k p) where
  -- no ready task stands above the highest list
  ready_under : (h u : ℕ) → ((m : ℕ) → h < m → m < PRIORITIES → k.ready m ≡ []) → k.place u ≡ IsReady → active k u ≤ h
  ready_under h u empty e =
      let one = in_list b k p s u e in
      let less = low b k p s u in
      ⊎_elim (λ lt. let none : count u (k.ready (active k u)) ≡ 0 = ap (count u) (empty (active k u) lt less) in absurd (omega arith)) (λ ge. omega arith) (cases_lt h (active k u))

  pub no_ready : highest k.ready PRIORITIES ≡ None → (u : ℕ) → k.place u ≡ IsReady → ⊥
  no_ready e u i =
      let one = in_list b k p s u i in
      let none : count u (k.ready (active k u)) ≡ 0 = ap (count u) (highest_none k.ready PRIORITIES e (active k u) (low b k p s u)) in
      omega arith

  chosen_at : (h : ℕ) → k.running ≡ None → (i : Highest k.ready PRIORITIES h) →
      (let next : Kernel = record k { running = Some i.first; ready = put h i.rest k.ready; place = put i.first IsRunning k.place } in Sound b next p × Settled next × HandlesWithin next)
  chosen_at h none i =
      let t = i.first in
      let ts = i.rest in
      let more : (u : ℕ) → count u (k.ready h) ≡ cond (eqb u t) 1 0 + count u ts = λ u. ap (count u) i.here in
      let mine : (u : ℕ) → u ≡ t → count u (k.ready h) ≡ 1 + count u ts = λ u e. more u ∙ ap (λ v. cond v 1 0 + count u ts) (eqb_same u t e) in
      let others : (u : ℕ) → u ≢ t → count u (k.ready h) ≡ 0 + count u ts = λ u e. more u ∙ ap (λ v. cond v 1 0 + count u ts) (eqb_other u t e) in
      let some : 0 < count t (k.ready h) = let j = mine t refl in omega arith in
      let here : k.place t ≡ IsReady = ready_if b k p s t h some in
      let lev : h ≡ active k t = at_level b k p s t h some in
      let at : (u : ℕ) → u ≡ t → k.place u ≡ IsReady = λ u e. ap k.place e ∙ here in
      let level : (u : ℕ) → u ≡ t → active k u ≡ h = λ u e. ap (active k) e ∙ sym lev in
      let under : (u : ℕ) → k.place u ≡ IsReady → active k u ≤ h = λ u e. ready_under h u i.above e in
      let Next : ℕ → Type 0 = λ r. k.partition.base r ≡ k.partition.base t in
      let beneath : (u : ℕ) → u ≢ t → Busy (k.actions u) → active k u < k.partition.base t =
      λ u ne busy.
      let ready : k.place u ≡ IsReady = ⊎_elim (λ e. let j = s.runner u e in absurd (cc)) (λ e. e) (s.awake u busy) in
      let le = under u ready in
      let hd = s.heads u busy ready in
      ⊎_elim
      (λ (bt : Busy (k.actions t)).
      ⊎_elim (λ (lt : active k u < k.partition.base t). lt) (λ (lt : active k t < k.partition.base u). let ge = base_raised k.partition.ceiling (k.partition.base u) (k.actions u) in absurd (omega arith)) (s.apart u t ne busy bt))
      (λ (idle : k.actions t ≡ []).
      let same : active k t ≡ k.partition.base t = ap (raised k.partition.ceiling (k.partition.base t)) idle in
      let differ : active k u ≢ h = λ e. let two : u ∷ hd.0 ≡ t ∷ ts = sym hd.1 ∙ ap k.ready e ∙ i.here in ne (cc) in
      omega arith)
      (busy_or_idle (k.actions t)) in (
        record {
          base_low = s.base_low;
          ceiling_low = s.ceiling_low;
          urgent = s.urgent;
          attached = s.attached;
          gone = λ u le.
              by_put (λ x. (x ≡ IsFinished) ⊎ (Some t ≡ Some u)) t u IsRunning k.place
              (λ e. inr (ap Some (sym e)))
              (λ ne. ⊎_elim (λ f. inl f) (λ r. absurd (cc)) (s.gone u le));
          runs = λ u e. by_put (λ x. x ≡ IsRunning) t u IsRunning k.place (λ j. refl) (λ ne. absurd (ne (cc)));
          runner = λ u e. of_put (λ x. x ≡ IsRunning) (Some t ≡ Some u) t u IsRunning k.place e (λ j l. ap Some (sym j)) (λ ne l. let j = s.runner u l in absurd (cc));
          lists = λ u g.
              by_put (λ x. count u (put h ts k.ready g) ≡ listed x (active k u) g) t u IsRunning k.place
              (λ e.
              by_put (λ l. count u l ≡ 0) h g ts k.ready
              (λ j. let c = mine u e in let z = s.lists u h in let o = listed_one (k.place u) (active k u) h in omega arith)
              (λ j. listed_at b k p s u g IsReady (at u e) ∙ ready_unlisted (active k u) g (λ m. j (m ∙ level u e))))
              (λ ne.
              by_put (λ l. count u l ≡ listed (k.place u) (active k u) g) h g ts k.ready
              (λ j. let c = others u ne in let z : count u (k.ready h) ≡ listed (k.place u) (active k u) g = ap (λ m. count u (k.ready m)) (sym j) ∙ s.lists u g in omega arith)
              (λ j. s.lists u g));
          naps_once = λ u. by_put (λ x. naps u k.sleepers + naps u p ≡ asleep x) t u IsRunning k.place (λ e. napping b k p s u IsReady (at u e)) (λ ne. s.naps_once u);
          queue = λ o u q. by_put (λ x. x ≡ IsQueued o) t u IsRunning k.place (λ e. let m = at u e in let j = s.queue o u q in absurd (cc)) (λ ne. s.queue o u q);
          waits = λ o u e. of_put (λ x. x ≡ IsQueued o) (k.queued o ≡ Some u) t u IsRunning k.place e (λ j l. absurd (cc)) (λ ne l. s.waits o u l);
          awake = λ u busy. by_put (λ x. (x ≡ IsRunning) ⊎ (x ≡ IsReady)) t u IsRunning k.place (λ e. inl refl) (λ ne. s.awake u busy);
          stacked = s.stacked;
          once = s.once;
          serving = λ v o u w. (by_put (λ x. x ≡ IsServed o) t u IsRunning k.place (λ e. let m = at u e in let j = (s.serving v o u w).0 in absurd (cc)) (λ ne. (s.serving v o u w).0), (s.serving v o u w).1);
          closed = s.closed;
          below = λ r u e ne busy. let same : t ≡ r = cc in subst (λ x. active k u < k.partition.base x) same (beneath u (λ j. ne (j ∙ same)) busy);
          apart = s.apart;
          heads = λ u busy e.
              of_put (λ x. x ≡ IsReady) ((us : List ℕ) × (put h ts k.ready (active k u) ≡ u ∷ us)) t u IsRunning k.place e
              (λ j l. absurd (cc))
              (λ ne l.
              let hd = s.heads u busy l in
              (hd.0, put_other h (active k u) ts k.ready (λ m. let two : u ∷ hd.0 ≡ t ∷ ts = sym hd.1 ∙ ap k.ready m ∙ i.here in ne (cc)) ∙ hd.1));
        },
        record {
          first = λ r u e l. let same : t ≡ r = cc in of_put (λ x. x ≡ IsReady) (active k u ≤ active k r) t u IsRunning k.place l (λ j m. absurd (cc)) (λ ne m. let le = under u m in let lv : h ≡ active k r = lev ∙ ap (active k) same in omega arith);
          nobody = λ u e l. absurd (cc);
        },
        λ u le e. let same : t ≡ u = cc in let lt = waiting_task b k p t IsReady here (λ e. cc) (λ e. cc) s in absurd (omega arith),
      )

  chosen : (h : ℕ) → k.running ≡ None → Highest k.ready PRIORITIES h → (let next = runs_from (Some h) k in Sound b next p × Settled next × HandlesWithin next)
  chosen h none i = subst (λ n. Sound b n p × Settled n × HandlesWithin n) (sym (ap (λ l. runs_head l h k) i.here)) (chosen_at h none i)

-- a task above which a list stands is no handler
preempted_task : (b : ℕ → Bool) (k : Kernel) (p : List Sleeper) (t h : ℕ) → active k t < h → h < PRIORITIES → Sound b k p → t < k.partition.tasks
preempted_task b k p t h lt low s =
    let over = base_raised k.partition.ceiling (k.partition.base t) (k.actions t) in
    ⊎_elim (λ (i : t < k.partition.tasks). i) (λ (le : k.partition.tasks ≤ t). let top = s.urgent t le in absurd (omega arith)) (cases_lt t k.partition.tasks)

-- a handler that runs is not preempted
pub handler_still : (b : ℕ → Bool) (k : Kernel) (p : List Sleeper) (t : ℕ) → k.running ≡ Some t → k.partition.tasks ≤ t → Sound b k p → dispatch k ≡ k
handler_still b k p t run le s = ap (λ r. dispatch_from r k) run ∙ keeps (highest k.ready PRIORITIES) refl
  where
    keeps : (o : Option ℕ) → highest k.ready PRIORITIES ≡ o → preempts t o k ≡ k
    keeps None e = refl
    keeps (Some h) e =
        let low = (highest_is k.ready PRIORITIES h e).below in
        let over = base_raised k.partition.ceiling (k.partition.base t) (k.actions t) in
        let top = s.urgent t le in
        ap (λ c. cond c (runs_from (Some h) (preempted t k)) k) (le-ltb (active k t) h (omega arith))

-- what dispatching makes of a kernel
abbrev pub Settles : (ℕ → Bool) → List Sleeper → Kernel → Kernel → Type 0
Settles b p k n = Sound b n p × Settled n × (HandlesWithin k → HandlesWithin n)

settled_at : (b : ℕ → Bool) (k : Kernel) (p : List Sleeper) (r o : Option ℕ) → k.running ≡ r → highest k.ready PRIORITIES ≡ o → Sound b k p → Settles b p k (dispatch k)
settled_at b k p None None er eo s =
    let is : dispatch k ≡ k = ap (λ r. dispatch_from r k) er ∙ ap (λ o. runs_from o k) eo in
    subst (Settles b p k) (sym is) (s, record { first = λ r u e. absurd (cc); nobody = λ u e i. no_ready b k p s eo u i }, λ w. w)
settled_at b k p None (Some h) er eo s =
    let is : dispatch k ≡ runs_from (Some h) k = ap (λ r. dispatch_from r k) er ∙ ap (λ o. runs_from o k) eo in
    let c = chosen b k p s h er (highest_is k.ready PRIORITIES h eo) in
    subst (Settles b p k) (sym is) (c.0, c.1, λ w. c.2)
settled_at b k p (Some t) None er eo s =
    let is : dispatch k ≡ k = ap (λ r. dispatch_from r k) er ∙ ap (λ o. preempts t o k) eo in
    subst (Settles b p k) (sym is) (s, record { first = λ r u e i. absurd (no_ready b k p s eo u i); nobody = λ u e. absurd (cc) }, λ w. w)
settled_at b k p (Some t) (Some h) er eo s =
    let is : dispatch k ≡ preempts t (Some h) k = ap (λ r. dispatch_from r k) er ∙ ap (λ o. preempts t o k) eo in
    let i = highest_is k.ready PRIORITIES h eo in
    ⊎_elim
    (λ lt.
    let e : preempts t (Some h) k ≡ runs_from (Some h) (preempted t k) = ap (λ b. cond b (runs_from (Some h) (preempted t k)) k) (lt-ltb (active k t) h lt) in
    let j : Highest (preempted t k).ready PRIORITIES h = record {
      first = i.first;
      rest = i.rest;
      here = put_other (active k t) h _ k.ready (λ m. omega arith) ∙ i.here;
      above = λ m more less. put_other (active k t) m _ k.ready (λ n. omega arith) ∙ i.above m more less;
      below = i.below;
    } in
    let task = preempted_task b k p t h lt i.below s in
    let c = chosen b (preempted t k) p (preempted_sound b k p t task er s) h refl j in
    subst (Settles b p k) (sym (is ∙ e)) (c.0, c.1, λ w. c.2))
    (λ ge.
    let e : preempts t (Some h) k ≡ k = ap (λ b. cond b (runs_from (Some h) (preempted t k)) k) (le-ltb (active k t) h ge) in
    subst (Settles b p k) (sym (is ∙ e))
    (s, record { first = λ r u e' l. let same : t ≡ r = cc in let lv : active k t ≡ active k r = ap (active k) same in let le = ready_under b k p s h u i.above l in omega arith; nobody = λ u e' l. absurd (cc) }, λ w. w))
    (cases_lt (active k t) h)

pub dispatch_sound : (b : ℕ → Bool) (k : Kernel) (p : List Sleeper) → Sound b k p → Settles b p k (dispatch k)
dispatch_sound b k p s = settled_at b k p k.running (highest k.ready PRIORITIES) refl refl s
