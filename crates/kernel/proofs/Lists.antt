-- Counts in lists; lists of actions and the priority that they give.
use Rattle.std.proofs.Common.{◌≡◌, ◌⊎◌, inl, inr, ℕ, ◌+◌, ◌<◌, ◌≤◌, List, [], ◌∷◌, ◌++◌, Bool, true, false, cond, refl, ap, subst, ⊎_elim, arith}
use Rattle.kernel.specs.State.{raised, Action, Reads, Writes, Serves, object_of, Sleeper}
use Rattle.kernel.specs.Invariant.{HasAction, IsInsideObject, Busy, CanWrite, ServesCall, Stacked, count, naps}

-- one of two kernels
pub either : {T : Type 0} (P : T → Type 0) (c : Bool) (x y : T) → P x → P y → P (cond c x y)
either P c x y h i = elim c as (λ c. P (cond c x y)) [ true ↦ h | false ↦ i ]

pub count_append : (t : ℕ) (xs ys : List ℕ) → count t (xs ++ ys) ≡ count t xs + count t ys
count_append t [] ys = omega arith
count_append t (x ∷ xs) ys = let i = count_append t xs ys in omega arith

pub naps_append : (t : ℕ) (xs ys : List Sleeper) → naps t (xs ++ ys) ≡ naps t xs + naps t ys
naps_append t [] ys = omega arith
naps_append t (x ∷ xs) ys = let i = naps_append t xs ys in omega arith

pub base_raised : (c : ℕ → ℕ) (b : ℕ) (l : List Action) → b ≤ raised c b l
base_raised c b [] = omega arith
base_raised c b (a ∷ l) = let i = base_raised c b l in omega arith

pub ceiling_raised : (c : ℕ → ℕ) (b o : ℕ) (l : List Action) → IsInsideObject o l → c o ≤ raised c b l
ceiling_raised c b o [] h = absurd h
ceiling_raised c b o (a ∷ l) h =
    ⊎_elim
    (λ e. let k : c (object_of a) ≡ c o = ap c e in omega arith)
    (λ r. let i = ceiling_raised c b o l r in omega arith)
    h

pub raised_below : (c : ℕ → ℕ) (b k : ℕ) (l : List Action) → b < k → ((o : ℕ) → c o < k) → raised c b l < k
raised_below c b k [] h i = h
raised_below c b k (a ∷ l) h i = let j = raised_below c b k l h i in let m = i (object_of a) in omega arith

pub at_busy : (o : ℕ) (l : List Action) → IsInsideObject o l → Busy l
at_busy o [] h = h
at_busy o (a ∷ l) h = tt

pub idle : (l : List Action) → l ≡ [] → Busy l → ⊥
idle l e h = subst Busy e h

pub busy_or_idle : (l : List Action) → Busy l ⊎ (l ≡ [])
busy_or_idle [] = inr refl
busy_or_idle (a ∷ l) = inl tt

pub has_map : (P Q : Action → Type 0) → ((a : Action) → P a → Q a) → (l : List Action) → HasAction P l → HasAction Q l
has_map P Q f [] h = h
has_map P Q f (a ∷ l) h = ⊎_elim (λ x. inl (f a x)) (λ x. inr (has_map P Q f l x)) h

pub writes_at : (o : ℕ) (a : Action) → CanWrite o a → object_of a ≡ o
writes_at o (Reads p) h = absurd h
writes_at o (Writes p) h = h
writes_at o (Serves p u) h = h

pub served_object : (o u : ℕ) (a : Action) → ServesCall o u a → object_of a ≡ o
served_object o u (Reads p) h = absurd h
served_object o u (Writes p) h = absurd h
served_object o u (Serves p v) h = h.0

pub served_at : (o u : ℕ) (l : List Action) → HasAction (ServesCall o u) l → IsInsideObject o l
served_at o u l h = has_map (ServesCall o u) (λ a. object_of a ≡ o) (served_object o u) l h

pub over_of : (c : ℕ → ℕ) (b o : ℕ) (l : List Action) → Stacked c b l → IsInsideObject o l → b ≤ c o
over_of c b o [] st h = absurd h
over_of c b o (a ∷ l) st h =
    ⊎_elim
    (λ e. let i : c (object_of a) ≡ c o = ap c e in let j = base_raised c b l in let m = st.0 in omega arith)
    (λ r. over_of c b o l st.1 r)
    h
