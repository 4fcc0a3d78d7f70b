-- Steps that leave dispatching and the clock as they are.
use Rattle.std.proofs.Common.{◌≡◌, inl, ℕ, ◌+◌, ◌<◌, ◌≤◌, List, [], ◌∷◌, ◌++◌, Option, Some, None, Bool, cond, refl, sym, ap, ◌∙◌, subst, ⊎_elim, arith}
use Rattle.std.proofs.lemmas.Bool.{le-ltb, cases_lt}
use Rattle.base.specs.declared.limits.TheConstants.{PRIORITIES}
use Rattle.kernel.specs.State.{Kernel, IsReady, Action, Reads, Writes, active, raised, put, is_object_open}
use Rattle.kernel.specs.Dispatching.{highest, runs_from, preempted, preempts, dispatch_from, dispatch}
use Rattle.kernel.specs.Clock.{time_moves, clock_from, clock}
use Rattle.kernel.specs.Effects.{SameObject, AboveCeiling, Ends, is_above_ceiling, ending_of, outer_of, with_actions, is_over, ends, goes_if, after}
use Rattle.kernel.specs.Calm.{IsRunner, Calm}
use Rattle.kernel.specs.Invariant.{count, HasAction, ServesCall, Sound, Settled, Kept}
use Rattle.kernel.specs.Laws.{DispatchedOnce, ClockedOnce, StandsStill, SomebodyRuns, RunnerIsCalm, QuietStays, SaysOn, OpensOn, ViewsOn, ViewsBack, EntryOpens, OneService}
use Rattle.kernel.specs.PutLaws.{eqb_same, put_same, put_put, put_self}
use Rattle.kernel.proofs.Places.{ready_if, at_level}
use Rattle.kernel.proofs.Passed.{outside}
use Rattle.kernel.proofs.Dispatch.{highest_is, dispatch_sound}
use Rattle.kernel.proofs.Clock.{finish}

module _ (k : Kernel) (t : ℕ) where
  -- where no list is higher than the running task, it runs on
  runs_on : (o : Option ℕ) → highest k.ready PRIORITIES ≡ o → ((h : ℕ) → active k t < h → k.ready h ≡ []) → preempts t o k ≡ k
  runs_on None e above = refl
  runs_on (Some h) e above =
      let i = highest_is k.ready PRIORITIES h e in
      let low : h ≤ active k t = ⊎_elim (λ lt. let none : [] ≡ i.first ∷ i.rest = sym (above h lt) ∙ i.here in absurd (cc)) (λ ge. ge) (cases_lt (active k t) h) in
      ap (λ b. cond b (runs_from (Some h) (preempted t k)) k) (le-ltb (active k t) h low)

  module _ (calm : Calm k t) where
    dispatch_still : dispatch k ≡ k
    dispatch_still = ap (λ r. dispatch_from r k) calm.runs.running ∙ runs_on (highest k.ready PRIORITIES) refl calm.above

    pub still : clock (dispatch k) ≡ k
    still = ap clock dispatch_still ∙ ap (λ r. clock_from r k) calm.runs.running

  -- more actions keep it calm
  more_actions : (a : Action) → Calm k t → Calm (with_actions t (a ∷ k.actions t) k) t
  more_actions a calm =
      let new = a ∷ k.actions t in
      let up : active k t ≤ raised k.partition.ceiling (k.partition.base t) (put t new k.actions t) =
      subst (λ l. active k t ≤ raised k.partition.ceiling (k.partition.base t) l) (sym (put_same t t new k.actions refl)) (omega arith) in
      record { runs = record { on = calm.runs.on; running = calm.runs.running }; above = λ h lt. calm.above h (omega arith) }

pub quiet_stays : QuietStays
quiet_stays k t calm = still k t calm

pub says_on : SaysOn
says_on k t label value calm =
    let l = record k { lines = k.lines ++ record { time = k.now; task = t; label = label; value = value } ∷ [] } in
    let same : Calm l t = record { runs = record { on = calm.runs.on; running = calm.runs.running }; above = calm.above } in
    (still l t same, same)

pub opens_on : OpensOn
opens_on k t o calm = let same = more_actions k t (Writes o) calm in (still _ t same, same)

pub views_on : ViewsOn
views_on k t o calm = let same = more_actions k t (Reads o) calm in (still _ t same, same)

pub views_back : ViewsBack
views_back k t o is_open calm =
    let new = Reads o ∷ k.actions t in
    let l = with_actions t new k in
    let closes : ends t (ending_of is_open new l.queued) (outer_of new) l ≡ k =
    λ i. record k { actions = λ u. (put_put t (k.actions t) new k.actions u ∙ put_self t k.actions u) i } in
    ap (after t (Ends is_open)) (views_on k t o calm).0
    ∙ (ap (λ z. clock (dispatch (goes_if (is_over l.partition t z (ending_of is_open z l.queued)) t (ends t (ending_of is_open z l.queued) (outer_of z) l)))) (put_same t t new k.actions refl)
    ∙ (ap (λ z. clock (dispatch z)) closes ∙ still k t calm))

-- what is kept is calm

empty_above : (b : ℕ → Bool) (k : Kernel) (t h : ℕ) (l : List ℕ) → k.ready h ≡ l → Sound b k [] → Settled k → k.running ≡ Some t → active k t < h → l ≡ []
empty_above b k t h [] e s st run lt = refl
empty_above b k t h (u ∷ us) e s st run lt =
    let here : count u (k.ready h) ≡ count u (u ∷ us) = ap (count u) e in
    let one : count u (u ∷ us) ≡ 1 + count u us = ap (λ v. cond v 1 0 + count u us) (eqb_same u u refl) in
    let some : 0 < count u (k.ready h) = omega arith in
    let level = at_level b k [] s u h some in
    let low = st.first t u run (ready_if b k [] s u h some) in
    absurd (omega arith)

pub runner_is_calm : RunnerIsCalm
runner_is_calm b k t kept runs = record { runs = runs; above = λ h lt. empty_above b k t h (k.ready h) refl kept.sound kept.settled runs.running lt }

somebody_at : (b : ℕ → Bool) (k : Kernel) (r : Option ℕ) → k.running ≡ r → Kept b k → k.outcome ≡ None → (t : ℕ) × IsRunner k t
somebody_at b k (Some t) e kept on = (t, record { on = on; running = e })
somebody_at b k None e kept on = let o = (kept.over e).1 in absurd (cc)

pub somebody_runs : SomebodyRuns
somebody_runs b k kept on = somebody_at b k k.running refl kept on

nobody_moves : (b : ℕ → Bool) (k : Kernel) (o : Option ℕ) → highest k.ready PRIORITIES ≡ o → Sound b k [] → ((u : ℕ) → k.place u ≡ IsReady → ⊥) → runs_from (highest k.ready PRIORITIES) k ≡ k
nobody_moves b k None e s none = ap (λ o. runs_from o k) e
nobody_moves b k (Some h) e s none =
    let i = highest_is k.ready PRIORITIES h e in
    let here : count i.first (k.ready h) ≡ count i.first (i.first ∷ i.rest) = ap (count i.first) i.here in
    let one : count i.first (i.first ∷ i.rest) ≡ 1 + count i.first i.rest = ap (λ v. cond v 1 0 + count i.first i.rest) (eqb_same i.first i.first refl) in
    absurd (none i.first (ready_if b k [] s i.first h (omega arith)))

dispatch_at : (b : ℕ → Bool) (k : Kernel) (r : Option ℕ) → k.running ≡ r → Sound b k [] → Settled k → dispatch k ≡ k
dispatch_at b k None e s st = ap (λ r. dispatch_from r k) e ∙ nobody_moves b k (highest k.ready PRIORITIES) refl s (λ u. st.nobody u e)
dispatch_at b k (Some t) e s st = ap (λ r. dispatch_from r k) e ∙ runs_on k t (highest k.ready PRIORITIES) refl (λ h lt. empty_above b k t h (k.ready h) refl s st e lt)

clock_at : (b : ℕ → Bool) (k : Kernel) (r : Option ℕ) → k.running ≡ r → Kept b k → clock k ≡ k
clock_at b k (Some t) e kept = ap (λ r. clock_from r k) e
clock_at b k None e kept =
    let over = kept.over e in
    ap (λ r. clock_from r k) e ∙ (ap (λ o. time_moves o k) over.0 ∙ λ i. record k { outcome = sym over.1 i })

pub stands_still : StandsStill
stands_still b k kept = (dispatch_at b k k.running refl kept.sound kept.settled, clock_at b k k.running refl kept)

pub dispatched_once : DispatchedOnce
dispatched_once b k s = let e = dispatch_sound b k [] s in dispatch_at b (dispatch k) (dispatch k).running refl e.0 e.1

pub clocked_once : ClockedOnce
clocked_once b k s sv w = let e = stands_still b (clock (dispatch k)) (finish b k s sv w) in ap clock e.0 ∙ e.1

-- calls

pub entry_opens : EntryOpens
entry_opens k t o none low =
    ap (λ x. cond x (Some SameObject) (cond (is_above_ceiling k t o) (Some AboveCeiling) None)) (ap (is_object_open o) (outside k t none))
    ∙ ap (λ y. cond y (Some AboveCeiling) None) low

pub one_service : OneService
one_service b k t o u outer e kept = kept.sound.serving t o u (subst (HasAction (ServesCall o u)) (sym e) (inl (refl, refl)))
