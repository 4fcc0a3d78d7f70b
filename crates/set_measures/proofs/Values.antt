-- The extreme of values with one more.
use Rattle.std.proofs.Common.{◌≡◌, ◌⊎◌, ℕ, zero, suc, ◌+◌, ◌<◌, ◌≤◌, List, [], ◌∷◌, ◌++◌, length, Option, Some, None, true, false, inl, inr, ⊎_elim, refl, ap, subst, arith, rules}
use Rattle.std.specs.Prelude.{nat_lt, slice_get}
use Rattle.set_measures.specs.Extremes.{IsExtreme, IsExtremeOf, capped, is_past}
use Rattle.set_measures.specs.declared.extreme.Extreme.{Extreme}
use Rattle.set_measures.specs.declared.measure.Direction.{Direction}
use Rattle.set_measures.specs.declared.measure.Direction.TheVariants.{Greatest, Least}

-- ---- places of a list with one more element

got_before : {X : Type 0} (xs : List X) (y z : X) (n : ℕ) → slice_get xs n ≡ Some z → (n < length xs) × (slice_get (xs ++ y ∷ []) n ≡ Some z)
got_before [] y z n is = absurd cc
got_before (x ∷ xs) y z zero is = (omega arith, is)
got_before (x ∷ xs) y z (suc n) is = let h = got_before xs y z n is in let less = h.0 in (omega (arith, less), h.1)

got_last : {X : Type 0} (xs : List X) (y : X) → slice_get (xs ++ y ∷ []) (length xs) ≡ Some y
got_last [] y = refl
got_last (x ∷ xs) y = got_last xs y

got_some : {X : Type 0} (xs : List X) (y z : X) (n : ℕ) → slice_get (xs ++ y ∷ []) n ≡ Some z
    → ((n < length xs) × (slice_get xs n ≡ Some z)) ⊎ ((n ≡ length xs) × (y ≡ z))
got_some [] y z zero is = inr (refl, search (rules, is))
got_some [] y z (suc n) is = absurd cc
got_some (x ∷ xs) y z zero is = inl (omega arith, is)
got_some (x ∷ xs) y z (suc n) is =
    ⊎_elim (λ h. let less = h.0 in inl (omega (arith, less), h.1)) (λ h. inr (ap suc h.0, h.1)) (got_some xs y z n is)

same_value : {v w : ℕ} → Some v ≡ Some w → v ≡ w
same_value e = search (rules, e)

-- ---- what is past what

less_of : (m n : ℕ) → nat_lt m n ≡ true → m < n
less_of m n h = search rules

not_less_of : (m n : ℕ) → nat_lt m n ≡ false → n ≤ m
not_less_of m n h = search rules

is_less : (m n : ℕ) → m < n → nat_lt m n ≡ true
is_less m n h = search rules

is_not_less : (m n : ℕ) → n ≤ m → nat_lt m n ≡ false
is_not_less m n h = search rules

-- no value is past itself
not_past_itself : (d : Direction) (v : ℕ) → is_past d v v ≡ false
not_past_itself Greatest v = is_not_less v v (omega arith)
not_past_itself Least v = is_not_less v v (omega arith)

-- what isn't past one value isn't past another that is past that, and this one is past it
not_past_further : (d : Direction) (v w u : ℕ) → is_past d u w ≡ false → is_past d v w ≡ true → (is_past d u v ≡ false) × (is_past d v u ≡ true)
not_past_further Greatest v w u within past =
    let low = not_less_of w u within in
    let high = less_of w v past in
    (is_not_less v u (omega (arith, low, high)), is_less u v (omega (arith, low, high)))
not_past_further Least v w u within past =
    let low = not_less_of u w within in
    let high = less_of v w past in
    (is_not_less u v (omega (arith, low, high)), is_less v u (omega (arith, low, high)))

module _ (d : Direction) (values : List (Option ℕ)) where
  -- with a run that has no value
  pub with_none : (e : Option Extreme) → IsExtremeOf d values e → IsExtremeOf d (values ++ None ∷ []) e
  with_none None is = λ place v has.
      ⊎_elim (λ h. is place v h.1) (λ h. absurd (let none : None ≡ Some v = h.1 in cc)) (got_some values None (Some v) place has)
  with_none (Some e) is = record {
    place = is.place;
    number_is = is.number_is;
    has = (got_before values None (Some e.value) is.place is.has).1;
    none_past = λ other v has.
        ⊎_elim (λ h. is.none_past other v h.1) (λ h. absurd (let none : None ≡ Some v = h.1 in cc)) (got_some values None (Some v) other has);
    first = λ earlier v less has.
        ⊎_elim (λ h. is.first earlier v less h.1) (λ h. absurd (let none : None ≡ Some v = h.1 in cc)) (got_some values None (Some v) earlier has);
  }

  -- with the first value
  pub with_first : (v n : ℕ) → n ≡ capped (length values + 1) → IsExtremeOf d values None
      → IsExtremeOf d (values ++ Some v ∷ []) (Some (record { value = v; number = n }))
  with_first v n number none = record {
    place = length values;
    number_is = number;
    has = got_last values (Some v);
    none_past = λ other w has.
        ⊎_elim (λ h. absurd (none other w h.1)) (λ h. subst (λ u. is_past d u v ≡ false) (same_value h.1) (not_past_itself d v))
        (got_some values (Some v) (Some w) other has);
    first = λ earlier w less has.
        ⊎_elim (λ h. absurd (none earlier w h.1)) (λ h. absurd (let at = h.0 in omega (arith, less, at)))
        (got_some values (Some v) (Some w) earlier has);
  }

  -- with a value that is past the extreme so far
  pub with_past : (e : Extreme) (v n : ℕ) → n ≡ capped (length values + 1) → IsExtreme d values e → is_past d v e.value ≡ true
      → IsExtreme d (values ++ Some v ∷ []) (record { value = v; number = n })
  with_past e v n number is past = record {
    place = length values;
    number_is = number;
    has = got_last values (Some v);
    none_past = λ other w has.
        ⊎_elim (λ h. (not_past_further d v e.value w (is.none_past other w h.1) past).0)
        (λ h. subst (λ u. is_past d u v ≡ false) (same_value h.1) (not_past_itself d v))
        (got_some values (Some v) (Some w) other has);
    first = λ earlier w less has.
        ⊎_elim (λ h. (not_past_further d v e.value w (is.none_past earlier w h.1) past).1)
        (λ h. absurd (let at = h.0 in omega (arith, less, at)))
        (got_some values (Some v) (Some w) earlier has);
  }

  -- with a value that isn't
  pub with_less : (e : Extreme) (v : ℕ) → IsExtreme d values e → is_past d v e.value ≡ false → IsExtreme d (values ++ Some v ∷ []) e
  with_less e v is not_past =
      let there = got_before values (Some v) (Some e.value) is.place is.has in
      record {
        place = is.place;
        number_is = is.number_is;
        has = there.1;
        none_past = λ other w has.
            ⊎_elim (λ h. is.none_past other w h.1) (λ h. subst (λ u. is_past d u e.value ≡ false) (same_value h.1) not_past)
            (got_some values (Some v) (Some w) other has);
        first = λ earlier w less has.
            ⊎_elim (λ h. is.first earlier w less h.1) (λ h. absurd (let at = h.0 in let within = there.0 in omega (arith, less, at, within)))
            (got_some values (Some v) (Some w) earlier has);
      }
