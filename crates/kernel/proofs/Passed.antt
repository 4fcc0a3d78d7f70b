-- What passed refusals tell of the running task and the object that it calls.
use Rattle.std.proofs.Common.{◌≡◌, ℕ, ◌≤◌, List, [], ◌∷◌, Option, Some, None, Bool, true, false, cond, eqb, ltb, refl, ⊎_elim, ◌||◌}
use Rattle.std.specs.Prelude.{is_some}
use Rattle.std.proofs.lemmas.Bool.{cases_lt, lt-ltb}
use Rattle.std.proofs.lemmas.Bool.Decides.{eqb_tells}
use Rattle.kernel.specs.State.{Kernel, Action, object_of, active, is_object_open}
use Rattle.kernel.specs.Effects.{SameObject, AboveCeiling, is_inside_any, is_above_ceiling, call_refusal, is_full}
use Rattle.kernel.specs.Invariant.{IsInsideObject}

pub not_open : (o : ℕ) (l : List Action) → is_object_open o l ≡ false → IsInsideObject o l → ⊥
not_open o [] e h = h
not_open o (a ∷ outer) e h = go (eqb (object_of a) o) refl e (not_open o outer)
  where
    go : (c : Bool) → eqb (object_of a) o ≡ c → (c || is_object_open o outer) ≡ false → (is_object_open o outer ≡ false → IsInsideObject o outer → ⊥) → ⊥
    go true i e rest = cc
    go false i e rest = ⊎_elim (λ same. ⊎_elim (λ t. let j = t.0 in cc) (λ t. t.1 same) (eqb_tells (object_of a) o)) (λ r. rest e r) h

pub low_if : (m n : ℕ) → ltb n m ≡ false → m ≤ n
low_if m n e = ⊎_elim (λ lt. let i = lt-ltb n m lt in absurd (cc)) (λ ge. ge) (cases_lt n m)

none_of : (l : List Action) → elim l as (λ x. Bool) [ [] ↦ false | a ∷ outer ↦ true ] ≡ false → l ≡ []
none_of [] e = refl
none_of (a ∷ outer) e = absurd (cc)

free_of : (q : Option ℕ) → is_some q ≡ false → q ≡ None
free_of None e = refl
free_of (Some u) e = absurd (cc)

module _ (k : Kernel) (t : ℕ) where
  pub outside : is_inside_any k t ≡ false → k.actions t ≡ []
  outside e = none_of (k.actions t) e

  module _ (o : ℕ) where
    pub not_above : is_above_ceiling k t o ≡ false → active k t ≤ k.partition.ceiling o
    not_above e = low_if (active k t) (k.partition.ceiling o) e

    accepted : (x y : Bool) → is_object_open o (k.actions t) ≡ x → is_above_ceiling k t o ≡ y → cond x (Some SameObject) (cond y (Some AboveCeiling) None) ≡ None → (IsInsideObject o (k.actions t) → ⊥) × (active k t ≤ k.partition.ceiling o)
    accepted true y e f n = absurd (cc)
    accepted false true e f n = absurd (cc)
    accepted false false e f n = (not_open o (k.actions t) e, not_above f)

    pub may_call : call_refusal k t o ≡ None → (IsInsideObject o (k.actions t) → ⊥) × (active k t ≤ k.partition.ceiling o)
    may_call e = accepted (is_object_open o (k.actions t)) (is_above_ceiling k t o) refl refl e

pub not_full : (k : Kernel) (o : ℕ) → is_full k o ≡ false → k.queued o ≡ None
not_full k o e = free_of (k.queued o) e
