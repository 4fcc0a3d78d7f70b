-- Elements of lists by their places, and lists that hold an element.
use Rattle.std.proofs.Common.{◌≡◌, ◌<◌, ℕ, zero, suc, ◌+◌, List, [], ◌∷◌, ◌++◌, take, drop, Bool, true, false, ◌⊎◌, inl, inr, Option, Some, None, refl, sym, ap, ◌∙◌, arith}
use Rattle.std.specs.Prelude.{slice_get, ◌||◌}
use Rattle.std.specs.List.{list_any}
use Rattle.types.specs.Places.{or_else}

pub same_some : {X : Type 0} (a b : X) → Some a ≡ Some b → a ≡ b
same_some {X} a b e = let f : Option X → X = λ o. elim o [ Some y ↦ y | None ↦ a ] in ap f e

pub not_both : (b : Bool) → b ≡ true → b ≡ false → ⊥
not_both true h i = cc
not_both false h i = cc

-- ---- places

pub within_taken : {X : Type 0} (xs : List X) (n k : ℕ) (x : X) → slice_get (take n xs) k ≡ Some x → (k < n) × (slice_get xs k ≡ Some x)
within_taken xs zero k x h = cc
within_taken [] (suc n) k x h = cc
within_taken (y ∷ ys) (suc n) zero x h = (omega arith, h)
within_taken (y ∷ ys) (suc n) (suc k) x h = let i = within_taken ys n k x h in (let l = i.0 in omega (arith, l), i.1)

pub taken_at : {X : Type 0} (xs : List X) (n k : ℕ) (x : X) → k < n → slice_get xs k ≡ Some x → slice_get (take n xs) k ≡ Some x
taken_at xs zero k x l h = absurd (omega (arith, l))
taken_at [] (suc n) k x l h = h
taken_at (y ∷ ys) (suc n) zero x l h = h
taken_at (y ∷ ys) (suc n) (suc k) x l h = taken_at ys n k x (omega (arith, l)) h

pub dropped_at : {X : Type 0} (xs : List X) (n k : ℕ) → slice_get (drop n xs) k ≡ slice_get xs (n + k)
dropped_at xs zero k = let e : 0 + k ≡ k = omega arith in ap (slice_get xs) (sym e)
dropped_at [] (suc n) k = refl
dropped_at (y ∷ ys) (suc n) k = let e : suc (n + k) ≡ suc n + k = omega arith in dropped_at ys n k ∙ ap (slice_get (y ∷ ys)) e

pub front_at : {X : Type 0} (xs ys : List X) (k : ℕ) (x : X) → slice_get xs k ≡ Some x → slice_get (xs ++ ys) k ≡ Some x
front_at [] ys k x h = cc
front_at (y ∷ xs) ys zero x h = h
front_at (y ∷ xs) ys (suc k) x h = front_at xs ys k x h

-- the elements up to one, and the one
pub taken_next : {X : Type 0} (xs : List X) (k : ℕ) (x : X) → slice_get xs k ≡ Some x → take (suc k) xs ≡ take k xs ++ x ∷ []
taken_next [] k x h = cc
taken_next (y ∷ ys) zero x h = let e = same_some y x h in ap (λ z. z ∷ []) e
taken_next (y ∷ ys) (suc k) x h = ap (λ zs. y ∷ zs) (taken_next ys k x h)

pub taken_further : {X : Type 0} (xs : List X) (n m : ℕ) → take (n + m) xs ≡ take n xs ++ take m (drop n xs)
taken_further xs zero m = let e : 0 + m ≡ m = omega arith in ap (λ k. take k xs) e
taken_further [] (suc n) zero = let e : suc n + 0 ≡ suc n = omega arith in ap (λ k. take k []) e
taken_further [] (suc n) (suc m) = let e : suc n + suc m ≡ suc (suc (n + m)) = omega arith in ap (λ k. take k []) e
taken_further (y ∷ ys) (suc n) m = let e : suc n + m ≡ suc (n + m) = omega arith in ap (λ k. take k (y ∷ ys)) e ∙ ap (λ zs. y ∷ zs) (taken_further ys n m)

-- ---- tests

either_false : (a b : Bool) → (a || b) ≡ false → (a ≡ false) × (b ≡ false)
either_false true b i = cc
either_false false b i = (refl, i)

pub none_passes : {X : Type 0} (test : X → Bool) (xs : List X) (k : ℕ) (x : X) → list_any test xs ≡ false → slice_get xs k ≡ Some x → test x ≡ false
none_passes test [] k x h at = cc
none_passes {X} test (y ∷ ys) zero x h at = ap test (sym (same_some y x at)) ∙ (either_false (test y) (list_any test ys) h).0
none_passes {X} test (y ∷ ys) (suc k) x h at = none_passes test ys k x (either_false (test y) (list_any test ys) h).1 at

pub one_passes : {X : Type 0} (test : X → Bool) (xs : List X) → list_any test xs ≡ true → (k : ℕ) × (x : X) × (slice_get xs k ≡ Some x) × (test x ≡ true)
one_passes test [] h = cc
one_passes {X} test (y ∷ ys) h = by_test (test y) refl h (λ i. one_passes test ys i)
  where
    by_test : (b : Bool) → test y ≡ b → (b || list_any test ys) ≡ true
        → (list_any test ys ≡ true → (k : ℕ) × (x : X) × (slice_get ys k ≡ Some x) × (test x ≡ true))
        → (k : ℕ) × (x : X) × (slice_get (y ∷ ys) k ≡ Some x) × (test x ≡ true)
    by_test true e i later = (0, y, refl, e)
    by_test false e i later = let n = later i in (suc n.0, n.1, n.2, n.3)

pub passes_at : {X : Type 0} (test : X → Bool) (xs : List X) (k : ℕ) (x : X) → slice_get xs k ≡ Some x → test x ≡ true → list_any test xs ≡ true
passes_at test [] k x at h = cc
passes_at test (y ∷ ys) zero x at h = let e = ap test (same_some y x at) ∙ h in ap (λ b. b || list_any test ys) e
passes_at test (y ∷ ys) (suc k) x at h = either (test y) (list_any test ys) (passes_at test ys k x at h)
  where
    either : (a b : Bool) → b ≡ true → (a || b) ≡ true
    either true b i = refl
    either false b i = i

-- ---- what a list has

abbrev pub Has : {X : Type 0} → List X → X → Type 0
Has [] x = ⊥
Has (y ∷ ys) x = (y ≡ x) ⊎ Has ys x

pub has_front : {X : Type 0} (xs ys : List X) (x : X) → Has xs x → Has (xs ++ ys) x
has_front [] ys x h = absurd h
has_front (y ∷ xs) ys x (inl e) = inl e
has_front (y ∷ xs) ys x (inr h) = inr (has_front xs ys x h)

pub has_back : {X : Type 0} (xs ys : List X) (x : X) → Has ys x → Has (xs ++ ys) x
has_back [] ys x h = h
has_back (y ∷ xs) ys x h = inr (has_back xs ys x h)

pub has_either : {X : Type 0} (xs ys : List X) (x : X) → Has (xs ++ ys) x → Has xs x ⊎ Has ys x
has_either [] ys x h = inr h
has_either (y ∷ xs) ys x (inl e) = inl (inl e)
has_either (y ∷ xs) ys x (inr h) = elim (has_either xs ys x h) [ inl i ↦ inl (inr i) | inr i ↦ inr i ]

-- ---- the first of two

pub or_else_none : {X : Type 0} (o : Option X) → or_else o None ≡ o
or_else_none (Some x) = refl
or_else_none None = refl

pub or_else_assoc : {X : Type 0} (a b c : Option X) → or_else (or_else a b) c ≡ or_else a (or_else b c)
or_else_assoc (Some x) b c = refl
or_else_assoc None b c = refl

pub or_else_some : {X : Type 0} (a b : Option X) (x : X) → or_else a b ≡ Some x → (a ≡ Some x) ⊎ ((a ≡ None) × (b ≡ Some x))
or_else_some (Some y) b x h = inl h
or_else_some None b x h = inr (refl, h)

pub first_some : {X : Type 0} (a b : Option X) (x : X) → a ≡ Some x → or_else a b ≡ Some x
first_some a b x h = ap (λ o. or_else o b) h
