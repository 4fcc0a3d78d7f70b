-- What the end of a body finds: who is queued or served stands nowhere else.
use Rattle.std.proofs.Common.{◌≡◌, ◌≢◌, ℕ, zero, suc, ◌≤◌, List, [], ◌∷◌, Option, Some, None, Bool, true, false, not, cond, refl, sym, ap, ◌∙◌, ⊎_elim, arith}
use Rattle.std.specs.Prelude.{◌&&◌}
use Rattle.std.proofs.lemmas.Bool.{true≢false, cases_lt, lt-ltb}
use Rattle.base.specs.declared.limits.TheConstants.{PRIORITIES}
use Rattle.kernel.specs.State.{Kernel, IsFinished, IsRunning, IsServed, Action, Reads, Writes, Serves, active, is_task}
use Rattle.kernel.specs.Effects.{Closes, Ending, Ends, HandsBack, TakesOver, ending_of, ends, is_last, is_over, outer_of, service}
use Rattle.kernel.specs.Invariant.{IsInOwn, Kept, asleep, count, listed}
use Rattle.kernel.specs.Laws.{Reaches}
use Rattle.kernel.specs.PutLaws.{eqb_other, put_same}
use Rattle.tasking.specs.declared.reports.Ending.{Ending as Left}
use Rattle.tasking.specs.declared.reports.Ending.TheVariants as endings
use Rattle.tasking.specs.Held.{ending_as, innermost}
use Rattle.tasking.specs.Orderly.{IsNowhere, IsOfObject, IsTask, MayEnd, is_gone, listings, runs_as}

serving_writes : (is_open : Bool) (p o u : ℕ) (q : Option ℕ) → TakesOver o u ≡ service is_open p q → p ≡ o
serving_writes false p o u q e = absurd (cc)
serving_writes true p o u None e = absurd (cc)
serving_writes true p o u (Some v) e = cc

writing : (is_open : Bool) (l : List Action) (queued : ℕ → Option ℕ) (o u : ℕ) → TakesOver o u ≡ ending_of is_open l queued → innermost l ≡ Some (Writes o)
writing is_open [] queued o u e = absurd (cc)
writing is_open (Reads p ∷ outer) queued o u e = absurd (cc)
writing is_open (Writes p ∷ outer) queued o u e = ap (λ m. Some (Writes m)) (serving_writes is_open p o u (queued p) e)
writing is_open (Serves p v ∷ outer) queued o u e = absurd (cc)

unlisted : (n t : ℕ) (ready : ℕ → List ℕ) → ((h : ℕ) → count t (ready h) ≡ 0) → listings n t ready ≡ 0
unfolding listings
unlisted zero t ready none = refl
unlisted (suc n) t ready none = let i = unlisted n t ready none in let e = none n in omega arith

served_nowhere : (b : ℕ → Bool) (k : Kernel) (t u o : ℕ) → Kept b k → k.running ≡ Some t → k.place u ≡ IsServed o → u ≢ t → IsNowhere k u
served_nowhere b k t u o kept run here other =
    let l = unlisted PRIORITIES u k.ready (λ h. kept.sound.lists u h ∙ ap (λ p. listed p (active k u) h) here) in
    let n = kept.sound.naps_once u ∙ ap asleep here in
    let r : runs_as u k.running ≡ 0 = ap (runs_as u) run ∙ ap (λ v. cond v 1 0) (eqb_other u t other) in
    omega (arith, l, n, r)

-- who is queued or served is a task: a handler only runs
waits_task : (b : ℕ → Bool) (k : Kernel) (u : ℕ) → Kept b k → k.place u ≢ IsFinished → k.place u ≢ IsRunning → IsTask k u
waits_task b k u kept there waits =
    ⊎_elim
    (λ lt. lt)
    (λ ge. absurd (⊎_elim (λ f. there f) (λ r. waits (kept.sound.runs u r)) (kept.sound.gone u ge)))
    (cases_lt u k.partition.tasks)

pub may_end : (b : ℕ → Bool) (k : Kernel) (t : ℕ) (is_open : Bool) (e : Left) → ending_as e ≡ ending_of is_open (k.actions t) k.queued → k.running
    ≡ Some t → Kept b k → Reaches k t (Ends is_open)
    → IsOfObject k e → MayEnd k t e
may_end b k t is_open endings.Closes is run kept reaches object = tt
may_end b k t is_open (endings.TakesOver o u) is run kept reaches object =
    let q = reaches.queued o u (sym is) in
    (writing is_open (k.actions t) k.queued o u is, waits_task b k u kept (λ f. let p = q.1 in absurd (cc)) (λ f. let p = q.1 in absurd (cc)), object)
may_end b k t is_open (endings.HandsBack u) is run kept reaches object =
    let s = reaches.served u (sym is) in
    (waits_task b k u kept (λ f. let p = s.1 in absurd (cc)) (λ f. let p = s.1 in absurd (cc)), served_nowhere b k t u s.0 kept run s.1 s.2)

-- ---- a handler is over where its own action has closed

abbrev inside_any : List Action → Bool
inside_any l = elim l [ [] ↦ false | a ∷ outer ↦ true ]

-- the open actions behind an end
abbrev acts_behind : Ending → List Action → List Action
acts_behind Closes outer = outer
acts_behind (TakesOver o u) outer = Serves o u ∷ outer
acts_behind (HandsBack u) outer = outer

over_at : (l : List Action) → IsInOwn l → (e : Ending) → not (inside_any (acts_behind e (outer_of l))) ≡ is_last l e
over_at [] own e = absurd own
over_at (Reads o ∷ []) own e = absurd own
over_at (Writes o ∷ []) own Closes = refl
over_at (Writes o ∷ []) own (TakesOver p u) = refl
over_at (Writes o ∷ []) own (HandsBack u) = refl
over_at (Serves o v ∷ []) own Closes = refl
over_at (Serves o v ∷ []) own (TakesOver p u) = refl
over_at (Serves o v ∷ []) own (HandsBack u) = refl
over_at (Reads o ∷ a ∷ outer) own Closes = refl
over_at (Reads o ∷ a ∷ outer) own (TakesOver p u) = refl
over_at (Reads o ∷ a ∷ outer) own (HandsBack u) = refl
over_at (Writes o ∷ a ∷ outer) own Closes = refl
over_at (Writes o ∷ a ∷ outer) own (TakesOver p u) = refl
over_at (Writes o ∷ a ∷ outer) own (HandsBack u) = refl
over_at (Serves o v ∷ a ∷ outer) own Closes = refl
over_at (Serves o v ∷ a ∷ outer) own (TakesOver p u) = refl
over_at (Serves o v ∷ a ∷ outer) own (HandsBack u) = refl

-- the end leaves the partition, and these actions
ended_partition : (t : ℕ) (e : Ending) (outer : List Action) (k : Kernel) → (ends t e outer k).partition ≡ k.partition
ended_partition t Closes outer k = refl
ended_partition t (TakesOver o u) outer k = refl
ended_partition t (HandsBack u) outer k = refl

ended_actions : (t : ℕ) (e : Ending) (outer : List Action) (k : Kernel) → (ends t e outer k).actions t ≡ acts_behind e outer
ended_actions t Closes outer k = put_same t t outer k.actions refl
ended_actions t (TakesOver o u) outer k = put_same t t (Serves o u ∷ outer) k.actions refl
ended_actions t (HandsBack u) outer k = put_same t t outer k.actions refl

pub ended_runs : (t : ℕ) (e : Ending) (outer : List Action) (k : Kernel) → (ends t e outer k).running ≡ k.running
ended_runs t Closes outer k = refl
ended_runs t (TakesOver o u) outer k = refl
ended_runs t (HandsBack u) outer k = refl

pub gone_over : (b : ℕ → Bool) (k : Kernel) (t : ℕ) (e : Ending) → Kept b k → k.running ≡ Some t
    → is_gone (ends t e (outer_of (k.actions t)) k) t ≡ is_over k.partition t (k.actions t) e
gone_over b k t e kept run =
    (λ i. not (is_task (ended_partition t e (outer_of (k.actions t)) k i) t) && not (inside_any (ended_actions t e (outer_of (k.actions t)) k i))) ∙ by_task (is_task k.partition t) refl
  where
    and_true : (x : Bool) → x ≡ (x && true)
    and_true true = refl
    and_true false = refl

    and_false : (x : Bool) → false ≡ (x && false)
    and_false true = refl
    and_false false = refl

    by_task : (c : Bool) → is_task k.partition t ≡ c
        → (not (is_task k.partition t) && not (inside_any (acts_behind e (outer_of (k.actions t))))) ≡ (is_last (k.actions t) e && not (is_task k.partition t))
    by_task true is =
        ap (λ c. not c && not (inside_any (acts_behind e (outer_of (k.actions t))))) is
        ∙ (and_false (is_last (k.actions t) e) ∙ sym (ap (λ c. is_last (k.actions t) e && not c) is))
    by_task false is =
        let beyond : k.partition.tasks ≤ t =
        ⊎_elim (λ lt. absurd (true≢false (sym (lt-ltb t k.partition.tasks lt) ∙ is))) (λ ge. ge) (cases_lt t k.partition.tasks) in
        ap (λ c. not c && not (inside_any (acts_behind e (outer_of (k.actions t))))) is
        ∙ (over_at (k.actions t) (kept.within t beyond run) e
        ∙ (and_true (is_last (k.actions t) e) ∙ sym (ap (λ c. is_last (k.actions t) e && not c) is)))
