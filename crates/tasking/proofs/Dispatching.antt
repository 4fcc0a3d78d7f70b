-- Dispatching, by who runs and whether a list stands above.
use Rattle.std.proofs.Common.{◌≡◌, ℕ, zero, suc, ◌<◌, ◌≤◌, get_or, length, List, [], ◌∷◌, Option, Some, None, true, false, cond, refl, sym, ap, ◌∙◌, ⊎_elim, arith}
use Rattle.std.proofs.lemmas.Bool.{cases_lt, ltb-true}
use Rattle.std.proofs.lemmas.List.{get_or_past}
use Rattle.base.specs.declared.limits.TheConstants.{CEILING, PRIORITIES}
use Rattle.dispatch.specs.Queues.{Queues, highest}
use Rattle.kernel.specs.State.{Action, Kernel, active, put, raised}
use Rattle.kernel.specs.Dispatching.{dispatch, dispatch_from, highest as kernel_highest, preempted, preempts, runs_from, unless_empty}
use Rattle.kernel.specs.PutLaws.{same_or_not, put_other}
use Rattle.tasking.specs.Held.{Held, kernel_of, lists_below}
use Rattle.tasking.specs.Orderly.{IsTask, is_above}
use Rattle.tasking.proofs.Places.{highest_same}

pub above_is : (g : Held) (q : Queues) (old : Held) → record g { ready = lists_below PRIORITIES q } ≡ old → (t : ℕ) (o : Option ℕ) → o ≡ highest q
    → is_above (active (kernel_of old) t) o ≡ is_above (active (kernel_of old) t) (kernel_highest (kernel_of old).ready PRIORITIES)
above_is g q old same t o e = ap (is_above (active (kernel_of old) t))
    (e ∙ (sym (highest_same q) ∙ ap (λ v. kernel_highest (kernel_of v).ready PRIORITIES) same))

below_of : (n h : ℕ) (r : ℕ → List ℕ) → kernel_highest r n ≡ Some h → h < n
below_of zero h r e = absurd (cc)
below_of (suc n) h r e = go (r n) (kernel_highest r n) (below_of n h r) e where
  go : (l : List ℕ) (o : Option ℕ) → (o ≡ Some h → h < n) → unless_empty l n o ≡ Some h → h < suc n
  go [] o low e = let i = low e in omega arith
  go (t ∷ ts) o low e = let same : n ≡ h = cc in omega arith

-- a list below the highest changes
highest_put : (n a h : ℕ) (x : List ℕ) (r : ℕ → List ℕ) → a < h → kernel_highest r n ≡ Some h → kernel_highest (put a x r) n ≡ Some h
highest_put zero a h x r lt e = absurd (cc)
highest_put (suc n) a h x r lt e =
    ⊎_elim
    (λ same. let b = below_of (suc n) h r e in absurd (omega arith))
    (λ ne. ap (λ l. unless_empty l n (kernel_highest (put a x r) n)) (put_other a n x r ne) ∙ go (r n) (kernel_highest r n) (highest_put n a h x r lt) e)
    (same_or_not n a) where
      go : (l : List ℕ) (o : Option ℕ) → (o ≡ Some h → kernel_highest (put a x r) n ≡ Some h) → unless_empty l n o ≡ Some h
          → unless_empty l n (kernel_highest (put a x r) n) ≡ Some h
      go [] o more e = more e
      go (t ∷ ts) o more e = e

-- what dispatching comes to, where `top` is the highest list
module _ (k : Kernel) (top : Option ℕ) (top_is : kernel_highest k.ready PRIORITIES ≡ top) where
  nobody_at : k.running ≡ None → runs_from top k ≡ dispatch k
  nobody_at e = sym (ap (λ r. dispatch_from r k) e ∙ ap (λ o. runs_from o k) top_is)

module _ (k : Kernel) (t : ℕ) (run : k.running ≡ Some t) where
  some_is : dispatch k ≡ preempts t (kernel_highest k.ready PRIORITIES) k
  some_is = ap (λ r. dispatch_from r k) run

  over_at : (o : Option ℕ) → kernel_highest k.ready PRIORITIES ≡ o → is_above (active k t) o ≡ true
      → runs_from (kernel_highest (preempted t k).ready PRIORITIES) (preempted t k) ≡ preempts t o k
  over_at None is e = absurd (cc)
  over_at (Some h) is e =
      ap (λ o. runs_from o (preempted t k)) (highest_put PRIORITIES (active k t) h (t ∷ k.ready (active k t)) k.ready (ltb-true (active k t) h e) is)
      ∙ sym (ap (λ b. cond b (runs_from (Some h) (preempted t k)) k) e)

  pub over_is : is_above (active k t) (kernel_highest k.ready PRIORITIES) ≡ true
      → runs_from (kernel_highest (preempted t k).ready PRIORITIES) (preempted t k) ≡ dispatch k
  over_is e = over_at (kernel_highest k.ready PRIORITIES) refl e ∙ sym some_is

  stays_at : (o : Option ℕ) → is_above (active k t) o ≡ false → k ≡ preempts t o k
  stays_at None e = refl
  stays_at (Some h) e = sym (ap (λ b. cond b (runs_from (Some h) (preempted t k)) k) e)

  pub stays_is : is_above (active k t) (kernel_highest k.ready PRIORITIES) ≡ false → k ≡ dispatch k
  stays_is e = stays_at (kernel_highest k.ready PRIORITIES) e ∙ sym some_is

pub nobody_is : (k : Kernel) → k.running ≡ None → runs_from (kernel_highest k.ready PRIORITIES) k ≡ dispatch k
nobody_is k e = nobody_at k (kernel_highest k.ready PRIORITIES) refl e

-- a handler has the highest priority: only a task is outranked
at_least : (c : ℕ → ℕ) (b : ℕ) (l : List Action) → b ≤ raised c b l
at_least c b [] = omega arith
at_least c b (a ∷ l) = let i = at_least c b l in omega arith

pub outranked_task : (old : Held) (t : ℕ) → is_above (active (kernel_of old) t) (kernel_highest (kernel_of old).ready PRIORITIES) ≡ true → IsTask (kernel_of old) t
outranked_task old t e = by_highest (kernel_highest (kernel_of old).ready PRIORITIES) refl e
  where
    by_highest : (o : Option ℕ) → kernel_highest (kernel_of old).ready PRIORITIES ≡ o → is_above (active (kernel_of old) t) o ≡ true → IsTask (kernel_of old) t
    by_highest None is f = absurd (cc)
    by_highest (Some h) is f =
        ⊎_elim
        (λ lt. lt)
        (λ ge.
        let low = below_of PRIORITIES h (kernel_of old).ready is in
        let above = ltb-true (active (kernel_of old) t) h f in
        let base = get_or_past old.objects.bases t CEILING ge in
        let raised_ = at_least (kernel_of old).partition.ceiling (get_or old.objects.bases t CEILING) ((kernel_of old).actions t) in
        absurd (omega (arith, low, above, base, raised_)))
        (cases_lt t (length old.objects.bases))
