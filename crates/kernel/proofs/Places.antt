-- What follows from a sound kernel: where tasks stand, and that they exclude one another.
use Rattle.std.proofs.Common.{◌≡◌, ◌≢◌, ℕ, ◌+◌, ◌<◌, ◌≤◌, List, [], Bool, cond, refl, sym, ap, ◌∙◌, ⊎_elim, arith}
use Rattle.base.specs.declared.limits.TheConstants.{PRIORITIES}
use Rattle.kernel.specs.State.{Kernel, TaskPlace, IsRunning, IsReady, IsAsleep, IsQueued, IsServed, IsFinished, Sleeper, active}
use Rattle.kernel.specs.Invariant.{IsInsideObject, Busy, count, naps, listed, asleep, Sound}
use Rattle.kernel.specs.PutLaws.{same_or_not, eqb_same, eqb_other}
use Rattle.kernel.proofs.Lists.{base_raised, ceiling_raised, raised_below, over_of, at_busy, busy_or_idle}

pub listed_ready : (p : TaskPlace) (a h : ℕ) → 0 < listed p a h → p ≡ IsReady
listed_ready IsReady a h lt = refl
listed_ready IsRunning a h lt = absurd (omega arith)
listed_ready IsAsleep a h lt = absurd (omega arith)
listed_ready (IsQueued o) a h lt = absurd (omega arith)
listed_ready (IsServed o) a h lt = absurd (omega arith)
listed_ready IsFinished a h lt = absurd (omega arith)

pub ready_listed : (a h : ℕ) → h ≡ a → listed IsReady a h ≡ 1
ready_listed a h e = ap (λ b. cond b 1 0) (eqb_same h a e)

pub ready_unlisted : (a h : ℕ) → h ≢ a → listed IsReady a h ≡ 0
ready_unlisted a h ne = ap (λ b. cond b 1 0) (eqb_other h a ne)

pub listed_one : (p : TaskPlace) (a h : ℕ) → listed p a h ≤ 1
listed_one IsReady a h = ⊎_elim (λ e. let i = ready_listed a h e in omega arith) (λ ne. let i = ready_unlisted a h ne in omega arith) (same_or_not h a)
listed_one IsRunning a h = omega arith
listed_one IsAsleep a h = omega arith
listed_one (IsQueued o) a h = omega arith
listed_one (IsServed o) a h = omega arith
listed_one IsFinished a h = omega arith

pub unlisted : (p : TaskPlace) (a h : ℕ) → p ≢ IsReady → listed p a h ≡ 0
unlisted IsReady a h ne = absurd (ne refl)
unlisted IsRunning a h ne = refl
unlisted IsAsleep a h ne = refl
unlisted (IsQueued o) a h ne = refl
unlisted (IsServed o) a h ne = refl
unlisted IsFinished a h ne = refl

module _ (b : ℕ → Bool) (k : Kernel) (p : List Sleeper) (s : Sound b k p) where
  pub one_inside : (o t u : ℕ) → IsInsideObject o (k.actions t) → IsInsideObject o (k.actions u) → t ≡ u
  one_inside o t u at_t at_u =
      let busy_t = at_busy o (k.actions t) at_t in
      let busy_u = at_busy o (k.actions u) at_u in
      let over_t = over_of k.partition.ceiling (k.partition.base t) o (k.actions t) (s.stacked t) at_t in
      let over_u = over_of k.partition.ceiling (k.partition.base u) o (k.actions u) (s.stacked u) at_u in
      let top_t = ceiling_raised k.partition.ceiling (k.partition.base t) o (k.actions t) at_t in
      let top_u = ceiling_raised k.partition.ceiling (k.partition.base u) o (k.actions u) at_u in
      ⊎_elim (λ e. e) (λ ne. absurd (⊎_elim (λ (lt : active k t < k.partition.base u). omega arith) (λ (lt : active k u < k.partition.base t). omega arith) (s.apart t u ne busy_t busy_u))) (same_or_not t u)

  pub different : (t u : ℕ) → t ≢ u → Busy (k.actions t) → Busy (k.actions u) → active k t ≢ active k u
  different t u ne bt bu e =
      let over_t = base_raised k.partition.ceiling (k.partition.base t) (k.actions t) in
      let over_u = base_raised k.partition.ceiling (k.partition.base u) (k.actions u) in
      ⊎_elim (λ (lt : active k t < k.partition.base u). omega arith) (λ (lt : active k u < k.partition.base t). omega arith) (s.apart t u ne bt bu)

  pub listed_at : (t h : ℕ) (q : TaskPlace) → k.place t ≡ q → count t (k.ready h) ≡ listed q (active k t) h
  listed_at t h q e = s.lists t h ∙ ap (λ x. listed x (active k t) h) e

  pub napping : (t : ℕ) (q : TaskPlace) → k.place t ≡ q → naps t k.sleepers + naps t p ≡ asleep q
  napping t q e = s.naps_once t ∙ ap asleep e

  pub in_list : (t : ℕ) → k.place t ≡ IsReady → count t (k.ready (active k t)) ≡ 1
  in_list t e = listed_at t (active k t) IsReady e ∙ ready_listed (active k t) (active k t) refl

  pub ready_if : (u h : ℕ) → 0 < count u (k.ready h) → k.place u ≡ IsReady
  ready_if u h lt = let e = s.lists u h in listed_ready (k.place u) (active k u) h (omega arith)

  pub at_level : (u h : ℕ) → 0 < count u (k.ready h) → h ≡ active k u
  at_level u h lt =
      let e = listed_at u h IsReady (ready_if u h lt) in
      ⊎_elim (λ i. i) (λ ne. let z = ready_unlisted (active k u) h ne in absurd (omega arith)) (same_or_not h (active k u))

  pub low : (t : ℕ) → active k t < PRIORITIES
  low t = raised_below k.partition.ceiling (k.partition.base t) PRIORITIES (k.actions t) (s.base_low t) s.ceiling_low

  -- who neither runs nor is ready has no action open
  pub idle_if : (t : ℕ) (q : TaskPlace) → k.place t ≡ q → q ≢ IsRunning → q ≢ IsReady → k.actions t ≡ []
  idle_if t q e no_run no_ready = ⊎_elim (λ busy. absurd (⊎_elim (λ i. no_run (sym e ∙ i)) (λ i. no_ready (sym e ∙ i)) (s.awake t busy))) (λ i. i) (busy_or_idle (k.actions t))
