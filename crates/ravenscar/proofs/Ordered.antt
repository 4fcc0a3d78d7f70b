-- Sorted faults of which none stands twice in a row are in order.
use Rattle.std.proofs.Common.{◌≡◌, ◌<◌, ◌⊎◌, ℕ, suc, Bool, true, false, cond, ◌&&◌, [], ◌∷◌, length, inl, inr, refl, sym, ap, subst, ◌∙◌, arith, Ordering}
use Rattle.std.specs.Prelude.{nat_eq, slice_index_or, ⊤}
use Rattle.std.specs.Cmp.{IsEquivalence}
use Rattle.std.specs.Ordering.{is_lt, nat_cmp, ordering_then}
use Rattle.std.specs.List.{dedup, dedup_from}
use Rattle.std.specs.List.Sorted.{IsSortedBy}
use Rattle.std.proofs.Math.Numerals.{add-one}
use Rattle.std.proofs.lemmas.Grind.{common_steps}
use Rattle.lexer.specs.declared.fault.Fault.{Fault}
use Rattle.lexer.specs.contracts.fault.FaultPartialEq.TheImpl.{eq-value}
use Rattle.expr_rules.specs.Faults.{Faults}
use Rattle.ravenscar.specs.BrokenRules.{Precedes, AreInOrderOfPlaces}

-- the key by which faults are sorted
abbrev pub key : Fault → ℕ × ℕ
key f = (f.place, f.number)

abbrev pub comes_before : ℕ × ℕ → ℕ × ℕ → Ordering
comes_before x y = ordering_then (nat_cmp x.0 y.0) (nat_cmp x.1 y.1)

abbrev earlier : Fault → Fault → Bool
earlier a b = is_lt (comes_before (key a) (key b))

-- none is earlier than the one in front of it
abbrev IsSorted : Faults → Type 0
IsSorted [] = ⊤
IsSorted (a ∷ []) = ⊤
IsSorted (a ∷ b ∷ rest) = (earlier b a ≡ false) × IsSorted (b ∷ rest)

abbrev NoneEarlier : Faults → Type 0
NoneEarlier xs = (k : ℕ) (d : Fault) → suc k < length xs → earlier (slice_index_or xs (suc k) d) (slice_index_or xs k d) ≡ false

none_earlier : (xs : Faults) → IsSortedBy earlier xs → NoneEarlier xs
none_earlier xs h k d less =
    subst (λ n. earlier (slice_index_or xs n d) (slice_index_or xs k d) ≡ false) (add-one k) (h k d (omega arith) (omega (arith, less)))

sorted : (xs : Faults) → NoneEarlier xs → IsSorted xs
sorted [] h = tt
sorted (a ∷ []) h = tt
sorted (a ∷ b ∷ rest) h = (h 0 a (omega arith), sorted (b ∷ rest) (λ k d less. h (suc k) d (omega (arith, less))))

by_place : (p q m n : ℕ) → is_lt (ordering_then (nat_cmp q p) (nat_cmp n m)) ≡ false → ((p < q) ⊎ ((p ≡ q) × (m < n))) ⊎ ((p ≡ q) × (m ≡ n))
by_place p q m n h = grind (arith, common_steps, h)

-- ---- the test of `dedup`

abbrev pub is_same : Fault → Fault → Bool
is_same x y = eq-value.it x y

by_parts : (x y : Fault) → is_same x y ≡ (nat_eq x.number y.number && nat_eq x.place y.place)
by_parts x y = refl

both : (a b c d : ℕ) → (nat_eq a b && nat_eq c d) ≡ true → (a ≡ b) × (c ≡ d)
both a b c d h = grind (arith, common_steps, h)

pub same_is_equal : (x y : Fault) → is_same x y ≡ true → x ≡ y
same_is_equal x y h = let e = both x.number y.number x.place y.place (sym (by_parts x y) ∙ h) in λ j. record { number = e.0 j; place = e.1 j }

itself : (n m : ℕ) → (nat_eq n n && nat_eq m m) ≡ true
itself n m = grind (arith, common_steps)

turned : (n m p q : ℕ) → (nat_eq n m && nat_eq p q) ≡ (nat_eq m n && nat_eq q p)
turned n m p q = grind (arith, common_steps)

pub equivalence : IsEquivalence is_same
equivalence =
    record {
      refl = λ x. itself x.number x.place;
      symm = λ x y. turned x.number y.number x.place y.place;
      congr = λ x y z h. ap (λ w. is_same w z) (same_is_equal x y h);
    }

-- ---- what sorting and `dedup` leave

module _ (same : Fault → Fault → Bool) (equal : (x y : Fault) → same x y ≡ true → x ≡ y) (itself : (x : Fault) → same x x ≡ true) where
  apart : (x y : Fault) → same y x ≡ false → x ≡ y → ⊥
  apart x y h e = let both : true ≡ false = sym (itself y) ∙ ap (same y) (sym e) ∙ h in cc

  before : (x y : Fault) → earlier y x ≡ false → same y x ≡ false → Precedes x y
  before x y later other =
      elim (by_place x.place y.place x.number y.number later) [
        | inl b ↦ b
        | inr e ↦ absurd (apart x y other (λ j. record { number = e.1 j; place = e.0 j }))
      ]

  one_more : (f k : Fault) (one two : Faults) (u : Bool) → Precedes f k → (u ≡ true → AreInOrderOfPlaces (f ∷ one)) → (u ≡ false → AreInOrderOfPlaces (k ∷ two))
      → AreInOrderOfPlaces (f ∷ cond u one (k ∷ two))
  one_more f k one two true b h g = h refl
  one_more f k one two false b h g = (b, g refl)

  from_one : (k : Fault) (one two : Faults) (u : Bool) → (u ≡ true → AreInOrderOfPlaces one) → (u ≡ false → AreInOrderOfPlaces (k ∷ two)) → AreInOrderOfPlaces (cond u one (k ∷ two))
  from_one k one two true h g = h refl
  from_one k one two false h g = g refl

  behind : (f k : Fault) (xs : Faults) → Precedes f k → IsSorted (k ∷ xs) → AreInOrderOfPlaces (f ∷ dedup_from same k xs)
  behind f k [] b s = (b, tt)
  behind f k (x ∷ xs) b s =
      one_more f k (dedup_from same k xs) (dedup_from same x xs) (same x k) b
      (λ e. behind f k xs b (subst (λ y. IsSorted (y ∷ xs)) (equal x k e) s.1))
      (λ e. behind k x xs (before k x s.0 e) s.1)

  from_first : (k : Fault) (xs : Faults) → IsSorted (k ∷ xs) → AreInOrderOfPlaces (dedup_from same k xs)
  from_first k [] s = tt
  from_first k (x ∷ xs) s =
      from_one k (dedup_from same k xs) (dedup_from same x xs) (same x k)
      (λ e. from_first k xs (subst (λ y. IsSorted (y ∷ xs)) (equal x k e) s.1))
      (λ e. behind k x xs (before k x s.0 e) s.1)

  in_order : (xs : Faults) → IsSorted xs → AreInOrderOfPlaces (dedup same xs)
  in_order [] s = tt
  in_order (x ∷ xs) s = from_first x xs s

  pub put_in_order : (xs : Faults) → IsSortedBy earlier xs → AreInOrderOfPlaces (dedup same xs)
  put_in_order xs h = in_order xs (sorted xs (none_earlier xs h))
