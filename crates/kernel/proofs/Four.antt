-- The four statements, from a kernel that is kept; the list of the tasks inside an object; whom the end of an action reaches.
use Rattle.std.proofs.Common.{◌≡◌, ◌≢◌, ◌⊎◌, inl, inr, ℕ, zero, suc, ◌+◌, ◌<◌, List, [], ◌∷◌, ◌++◌, Option, Some, None, Bool, true, false, cond, eqb, refl, sym, ap, ◌∙◌, subst, ⊎_elim, arith, ◌||◌}
use Rattle.std.proofs.lemmas.Bool.{cases_lt}
use Rattle.std.proofs.lemmas.Bool.Decides.{eqb_tells}
use Rattle.base.specs.declared.limits.TheConstants.{CHANNELS}
use Rattle.kernel.specs.State.{Kernel, IsQueued, IsServed, Action, Reads, Writes, Serves, object_of, actor, active, is_object_open, inside_among}
use Rattle.kernel.specs.Effects.{Quiet, Ends, TakesOver, HandsBack, service, ending_of}
use Rattle.kernel.specs.Invariant.{HasAction, IsInsideObject, Busy, CanWrite, ServesCall, count, Kept}
use Rattle.kernel.specs.Exclusion.{StandsIn, IsInside, IsInAction}
use Rattle.kernel.specs.Laws.{FourHold, InsideLists, NobodyReady, Reaches, ReachesCallers}
use Rattle.kernel.specs.PutLaws.{same_or_not, eqb_same, eqb_other}
use Rattle.kernel.proofs.Lists.{has_map, writes_at}
use Rattle.kernel.proofs.Passed.{not_open}
use Rattle.kernel.proofs.Places.{one_inside, different, in_list, ready_if}

-- tests and what they tell

open_at : (o : ℕ) (l : List Action) (b : Bool) → is_object_open o l ≡ b → b ≡ true → IsInsideObject o l
open_at o [] b e t = absurd (cc)
open_at o (a ∷ outer) b e t = go (eqb (object_of a) o) refl (open_at o outer (is_object_open o outer) refl)
  where
    go : (c : Bool) → eqb (object_of a) o ≡ c → (is_object_open o outer ≡ true → IsInsideObject o outer) → IsInsideObject o (a ∷ outer)
    go true i rest = ⊎_elim (λ h. inl h.1) (λ h. let j = h.0 in absurd (cc)) (eqb_tells (object_of a) o)
    go false i rest = inr (rest (sym (ap (λ c. c || is_object_open o outer) i) ∙ (e ∙ t)))

inside_at : (k : Kernel) (o t : ℕ) → IsInside k o t → IsInsideObject o (k.actions t)
inside_at k o t e = open_at o (k.actions t) true e refl

open_either : (b : Bool) → (b ≡ true) ⊎ (b ≡ false)
open_either true = inl refl
open_either false = inr refl

at_inside : (k : Kernel) (o t : ℕ) → IsInsideObject o (k.actions t) → IsInside k o t
at_inside k o t h = ⊎_elim (λ e. e) (λ e. absurd (not_open o (k.actions t) e h)) (open_either (is_object_open o (k.actions t)))

busy_if : (l : List Action) → elim l as (λ x. Bool) [ [] ↦ false | a ∷ outer ↦ true ] ≡ true → Busy l
busy_if [] e = absurd (cc)
busy_if (a ∷ outer) e = tt

in_action : (k : Kernel) (t : ℕ) → IsInAction k t → Busy (k.actions t)
in_action k t e = busy_if (k.actions t) e

stands_count : (l : List ℕ) (t : ℕ) → StandsIn l t → 0 < count t l
stands_count [] t h = absurd h
stands_count (u ∷ us) t h =
    ⊎_elim
    (λ e. let one : count t (u ∷ us) ≡ 1 + count t us = ap (λ v. cond v 1 0 + count t us) (eqb_same t u e) in omega arith)
    (λ r. let i = stands_count us t r in omega arith)
    h

count_stands : (l : List ℕ) (t : ℕ) → 0 < count t l → StandsIn l t
count_stands [] t lt = absurd (omega arith)
count_stands (u ∷ us) t lt =
    ⊎_elim
    (λ e. inl e)
    (λ ne. let none : count t (u ∷ us) ≡ 0 + count t us = ap (λ v. cond v 1 0 + count t us) (eqb_other t u ne) in inr (count_stands us t (omega arith)))
    (same_or_not t u)

pub four_hold : FourHold
four_hold b k kept =
    let s = kept.sound in
    record {
      one_inside = λ o t u it iu. one_inside b k [] s o t u (inside_at k o t it) (inside_at k o u iu);
      different = λ t u ne it iu. different b k [] s t u ne (in_action k t it) (in_action k u iu);
      none_waits = λ t it.
          ⊎_elim
          (λ e. inl (s.runner t e))
          (λ e. let one = in_list b k [] s t e in inr (count_stands (k.ready (active k t)) t (omega arith)))
          (s.awake t (in_action k t it));
      highest_runs = λ r u h e st. kept.settled.first r u e (ready_if b k [] s u h (stands_count (k.ready h) u st));
      queued_closed = λ o u q. ⊎_elim (λ e. inl e) (λ w. inr (w.0, at_inside k o w.0 (has_map (CanWrite o) (λ a. object_of a ≡ o) (writes_at o) (k.actions w.0) w.1))) (s.closed o u q);
    }

no_list : (b : ℕ → Bool) (k : Kernel) (h : ℕ) (l : List ℕ) → Kept b k → k.running ≡ None → k.ready h ≡ l → l ≡ []
no_list b k h [] kept e i = refl
no_list b k h (u ∷ us) kept e i = absurd (kept.settled.nobody u e (ready_if b k [] kept.sound u h (stands_count (k.ready h) u (subst (λ l. StandsIn l u) (sym i) (inl refl)))))

pub nobody_ready : NobodyReady
nobody_ready b k kept e h = no_list b k h (k.ready h) kept e refl

-- the list of the tasks inside an object

stands_append : (xs ys : List ℕ) (t : ℕ) → StandsIn (xs ++ ys) t → StandsIn xs t ⊎ StandsIn ys t
stands_append [] ys t h = inr h
stands_append (x ∷ xs) ys t h = ⊎_elim (λ e. inl (inl e)) (λ r. ⊎_elim (λ i. inl (inr i)) (λ i. inr i) (stands_append xs ys t r)) h

stands_left : (xs ys : List ℕ) (t : ℕ) → StandsIn xs t → StandsIn (xs ++ ys) t
stands_left [] ys t h = absurd h
stands_left (x ∷ xs) ys t h = ⊎_elim (λ e. inl e) (λ r. inr (stands_left xs ys t r)) h

stands_right : (xs ys : List ℕ) (t : ℕ) → StandsIn ys t → StandsIn (xs ++ ys) t
stands_right [] ys t h = h
stands_right (x ∷ xs) ys t h = inr (stands_right xs ys t h)

among_back : (n : ℕ) (k : Kernel) (o t : ℕ) → StandsIn (inside_among n k o) t → (t < n) × IsInside k o t
among_back zero k o t h = absurd h
among_back (suc n) k o t h =
    ⊎_elim
    (λ l. let i = among_back n k o t l in (omega (arith, i.0), i.1))
    (λ r. go (is_object_open o (k.actions n)) refl r)
    (stands_append (inside_among n k o) (cond (is_object_open o (k.actions n)) (n ∷ []) []) t h)
  where
    go : (b : Bool) → is_object_open o (k.actions n) ≡ b → StandsIn (cond b (n ∷ []) []) t → (t < suc n) × IsInside k o t
    go true e r = ⊎_elim (λ i. (omega arith, subst (λ x. IsInside k o x) (sym i) e)) (λ z. absurd z) r
    go false e r = absurd r

among_forth : (n : ℕ) (k : Kernel) (o t : ℕ) → t < n → IsInside k o t → StandsIn (inside_among n k o) t
among_forth zero k o t lt h = absurd (omega arith)
among_forth (suc n) k o t lt h =
    ⊎_elim
    (λ less. stands_left (inside_among n k o) (cond (is_object_open o (k.actions n)) (n ∷ []) []) t (among_forth n k o t less h))
    (λ ge.
    let same : t ≡ n = omega arith in
    stands_right (inside_among n k o) (cond (is_object_open o (k.actions n)) (n ∷ []) []) t
    (subst (λ b. StandsIn (cond b (n ∷ []) []) t) (sym (subst (λ x. IsInside k o x) same h)) (inl same)))
    (cases_lt t n)

pub inside_lists : InsideLists
inside_lists k o t = let n = suc (actor k.partition CHANNELS) in (among_back n k o t, among_forth n k o t)

-- whom the end of an action reaches

module _ (b : ℕ → Bool) (k : Kernel) (t : ℕ) (run : k.running ≡ Some t) (kept : Kept b k) where
  not_running : (o u : ℕ) → (k.place u ≡ IsQueued o) ⊎ (k.place u ≡ IsServed o) → u ≢ t
  not_running o u h e = let here = ap k.place e ∙ kept.sound.runs t run in ⊎_elim (λ i. absurd (cc)) (λ i. absurd (cc)) h

  closes_none : Reaches k t Quiet
  closes_none = record { queued = λ o u e. absurd (cc); served = λ u e. absurd (cc) }

  ends_reach : (is_open : Bool) (l : List Action) → k.actions t ≡ l → (o u : ℕ) → ending_of is_open l k.queued ≡ TakesOver o u → (k.queued o ≡ Some u) × (k.place u ≡ IsQueued o) × (u ≢ t)
  ends_reach is_open [] e o u i = absurd (cc)
  ends_reach is_open (Reads p ∷ outer) e o u i = absurd (cc)
  ends_reach is_open (Writes p ∷ outer) e o u i = go is_open (k.queued p) refl i
    where
      go : (is_open : Bool) (q : Option ℕ) → k.queued p ≡ q → service is_open p q ≡ TakesOver o u → (k.queued o ≡ Some u) × (k.place u ≡ IsQueued o) × (u ≢ t)
      go false q j m = absurd (cc)
      go true None j m = absurd (cc)
      go true (Some v) j m =
          let same : p ≡ o = cc in
          let who : v ≡ u = cc in
          let q : k.queued o ≡ Some u = sym (ap k.queued same) ∙ (j ∙ ap Some who) in
          let place = kept.sound.queue o u q in
          (q, place, not_running o u (inl place))
  ends_reach is_open (Serves p v ∷ outer) e o u i = absurd (cc)

  ends_serve : (is_open : Bool) (l : List Action) → k.actions t ≡ l → (u : ℕ) → ending_of is_open l k.queued ≡ HandsBack u → (o : ℕ) × (k.place u ≡ IsServed o) × (u ≢ t)
  ends_serve is_open [] e u i = absurd (cc)
  ends_serve is_open (Reads p ∷ outer) e u i = absurd (cc)
  ends_serve is_open (Writes p ∷ outer) e u i = go is_open (k.queued p) i
    where
      go : (is_open : Bool) (q : Option ℕ) → service is_open p q ≡ HandsBack u → (o : ℕ) × (k.place u ≡ IsServed o) × (u ≢ t)
      go false q m = absurd (cc)
      go true None m = absurd (cc)
      go true (Some v) m = absurd (cc)
  ends_serve is_open (Serves p v ∷ outer) e u i =
      let who : v ≡ u = cc in
      let place : k.place u ≡ IsServed p = sym (ap k.place who) ∙ (kept.sound.serving t p v (subst (HasAction (ServesCall p v)) (sym e) (inl (refl, refl)))).0 in
      (p, place, not_running p u (inr place))

pub reaches_callers : ReachesCallers
reaches_callers b k t (Ends is_open) run kept = record { queued = ends_reach b k t run kept is_open (k.actions t) refl; served = ends_serve b k t run kept is_open (k.actions t) refl }
reaches_callers b k t e run kept = record { queued = λ o u i. absurd (cc); served = λ u i. absurd (cc) }
