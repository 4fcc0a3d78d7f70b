-- All choices of a set are in the order of alternatives, from the first one to the last one.
use Rattle.std.proofs.Common.{◌≡◌, ℕ, zero, suc, ◌+◌, ◌<◌, List, [], ◌∷◌, ◌++◌, length, map, Option, Some, None, Bool, true, false, cond, refl, sym, ap, subst, ◌∙◌, arith, rules}
use Rattle.std.specs.Prelude.{nat_lt}
use Rattle.choices.specs.Places.{firsts, next_by}
use Rattle.choices.specs.Slots.{Slot, are_each_slots, is_slot}
use Rattle.choices.proofs.Order.{alternatives_lawful, both}
use Rattle.set_measures.specs.Choices.{choices_of, each_below}
use Rattle.set_measures.specs.Stepping.{AreConsecutive, first_or}

-- one part in order after another
joined : (slots : List Slot) (xs ys : List (List ℕ)) (end : Option (List ℕ)) → AreConsecutive slots (first_or end ys) xs → AreConsecutive slots end ys
    → AreConsecutive slots end (xs ++ ys)
joined slots [] ys end a b = b
joined slots (x ∷ []) ys end a b = (a.0, b)
joined slots (x ∷ z ∷ xs) ys end a b = (a.0, joined slots (z ∷ xs) ys end a.1 b)

-- with one place of a slot in front of all
with_front : (s : Slot) (p : ℕ) (slots : List Slot) (xs : List (List ℕ)) → AreConsecutive slots None xs
    → AreConsecutive (s ∷ slots) (next_by s p slots None) (map (λ places. p ∷ places) xs)
with_front s p slots [] c = tt
with_front s p slots (x ∷ []) c = (ap (next_by s p slots) c.0, tt)
with_front s p slots (x ∷ y ∷ xs) c = (ap (next_by s p slots) c.0, with_front s p slots (y ∷ xs) c.1)

first_front : (p : ℕ) (xs : List (List ℕ)) (end : Option (List ℕ)) (q : List ℕ) → first_or None xs ≡ Some q
    → first_or end (map (λ places. p ∷ places) xs) ≡ Some (p ∷ q)
first_front p [] end q is = absurd cc
first_front p (x ∷ xs) end q is = let same : x ≡ q = search (rules, is) in ap (λ places. Some (p ∷ places)) same

first_joined : (xs ys : List (List ℕ)) (q : List ℕ) → first_or None xs ≡ Some q → first_or None (xs ++ ys) ≡ Some q
first_joined [] ys q is = absurd cc
first_joined (x ∷ xs) ys q is = is

test_true : {X : Type 0} (b : Bool) (x y : X) → b ≡ true → cond b x y ≡ x
test_true b x y e = ap (λ c. cond c x y) e

test_false : {X : Type 0} (b : Bool) (x y : X) → b ≡ false → cond b x y ≡ y
test_false b x y e = ap (λ c. cond c x y) e

-- where the slot has a further alternative, and where it has none
further : (s : Slot) (n : ℕ) (slots : List Slot) → suc n < length s.alternatives → next_by s n slots None ≡ Some (suc n ∷ firsts slots)
further s n slots less =
    let at : n + 1 ≡ suc n = omega arith in
    let test : nat_lt (n + 1) (length s.alternatives) ≡ true = search (rules, less, at) in
    test_true (nat_lt (n + 1) (length s.alternatives)) (Some ((n + 1) ∷ firsts slots)) None test ∙ ap (λ p. Some (p ∷ firsts slots)) at

no_further : (s : Slot) (n : ℕ) (slots : List Slot) → length s.alternatives ≡ suc n → next_by s n slots None ≡ None
no_further s n slots is =
    let at : length s.alternatives ≡ n + 1 = omega (arith, is) in
    let test : nat_lt (n + 1) (length s.alternatives) ≡ false = search (rules, at) in
    test_false (nat_lt (n + 1) (length s.alternatives)) (Some ((n + 1) ∷ firsts slots)) None test

-- the choices with the first places of a slot
below : (s : Slot) (slots : List Slot) (xs : List (List ℕ)) → first_or None xs ≡ Some (firsts slots) → AreConsecutive slots None xs
    → (n : ℕ) → n < length s.alternatives
    → AreConsecutive (s ∷ slots) (next_by s n slots None) (each_below (suc n) (λ p. map (λ places. p ∷ places) xs))
below s slots xs first c zero less = with_front s 0 slots xs c
below s slots xs first c (suc n) less =
    let end = next_by s (suc n) slots None in
    let next_is : next_by s n slots None ≡ first_or end (map (λ places. suc n ∷ places) xs) =
    further s n slots less ∙ sym (first_front (suc n) xs end (firsts slots) first) in
    joined (s ∷ slots) (each_below (suc n) (λ p. map (λ places. p ∷ places) xs)) (map (λ places. suc n ∷ places) xs) end
    (subst (λ e. AreConsecutive (s ∷ slots) e (each_below (suc n) (λ p. map (λ places. p ∷ places) xs))) next_is
    (below s slots xs first c n (omega (arith, less))))
    (with_front s (suc n) slots xs c)

first_below : (slots : List Slot) (xs : List (List ℕ)) → first_or None xs ≡ Some (firsts slots) → (n : ℕ)
    → first_or None (each_below (suc n) (λ p. map (λ places. p ∷ places) xs)) ≡ Some (0 ∷ firsts slots)
first_below slots xs first zero = first_front 0 xs None (firsts slots) first
first_below slots xs first (suc n) =
    first_joined (each_below (suc n) (λ p. map (λ places. p ∷ places) xs)) (map (λ places. suc n ∷ places) xs) (0 ∷ firsts slots)
    (first_below slots xs first n)

has_first : (n : ℕ) → nat_lt 0 n ≡ true → (m : ℕ) × (n ≡ suc m)
has_first zero less = absurd cc
has_first (suc m) less = (m, refl)

pub in_order : (slots : List Slot) → are_each_slots slots ≡ true → (first_or None (choices_of slots) ≡ Some (firsts slots)) × AreConsecutive slots None (choices_of slots)
in_order [] lawful = (refl, (refl, tt))
in_order (s ∷ slots) lawful =
    let h = both (is_slot s) (are_each_slots slots) lawful in
    let rest = in_order slots h.1 in
    let some = has_first (length s.alternatives) (alternatives_lawful s h.0).1 in
    let f : ℕ → List (List ℕ) = λ p. map (λ places. p ∷ places) (choices_of slots) in
    let less : some.0 < length s.alternatives = let e = some.1 in omega (arith, e) in (
      subst (λ n. first_or None (each_below n f) ≡ Some (0 ∷ firsts slots)) (sym some.1) (first_below slots (choices_of slots) rest.0 some.0),
      subst (λ n. AreConsecutive (s ∷ slots) None (each_below n f)) (sym some.1)
          (subst (λ e. AreConsecutive (s ∷ slots) e (each_below (suc some.0) f)) (no_further s some.0 slots some.1)
          (below s slots (choices_of slots) rest.0 rest.1 some.0 less)),
    )
