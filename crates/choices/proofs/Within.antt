-- Alternatives that were read are values of 64 bits, and there are some.
use Rattle.std.proofs.Common.{◌≡◌, ℕ, zero, suc, ◌+◌, ◌<◌, ◌≤◌, ℤ, pos, negsuc, List, [], ◌∷◌, ◌++◌, length, Option, Some, None, Bool, true, false, cond, refl, sym, ap, subst, ◌∙◌, arith, length-append, rules}
use Rattle.std.specs.Prelude.{◌&&◌, ◌+ℤ◌, ◌-ℤ◌, ◌≤ℤ◌, int_le}
use Rattle.std.specs.List.{onto_first, slice_split}
use Rattle.std.proofs.lemmas.Int.{ints}
use Rattle.base.specs.Arithmetic.{is_in_base_range}
use Rattle.clock.specs.Capped.{ranged_value}
use Rattle.clock.specs.Texts.{value_at}
use Rattle.choices.specs.Slots.{are_values, is_value}
use Rattle.choices.specs.Texts.{alternatives_in, alternatives_of, behind_dots, distance, in_front, is_bar, is_dash, is_empty, natural, range_and, range_from, range_of, ranges_in, ranges_of, up_to, value_behind, values_from}
use Rattle.choices.specs.declared.ranges.Range.{Range}
use Rattle.choices.specs.declared.ranges.Range.TheVariants.{NoLine, Values}
use Rattle.choices.proofs.Order.{both}

abbrev IsRange : Range → Type 0
IsRange NoLine = Unit {0}
IsRange (Values first last) = (is_in_base_range first ≡ true) × ((is_in_base_range last ≡ true) × (first ≤ℤ last))

le_of : (a b : ℤ) → int_le a b ≡ true → a ≤ℤ b
le_of a b h = grind (arith, ints)

le_self : (a : ℤ) → a ≤ℤ a
le_self a = grind (arith, ints)

-- ---- what was read is in range

ranged_lawful : (o : Option (ℤ × List ℕ)) (read : ℤ × List ℕ) → ranged_value o ≡ Some read → is_in_base_range read.0 ≡ true
ranged_lawful None read e = absurd cc
ranged_lawful (Some r) read e = by (is_in_base_range r.0) refl e
  where
    by : (b : Bool) → is_in_base_range r.0 ≡ b → cond b (Some r) None ≡ Some read → is_in_base_range read.0 ≡ true
    by true t f = let same : r ≡ read = search (rules, f) in subst (λ x. is_in_base_range x.0 ≡ true) same t
    by false t f = absurd cc

behind_lawful : (o : Option (List ℕ)) (read : ℤ × List ℕ) → value_behind o ≡ Some read → is_in_base_range read.0 ≡ true
behind_lawful None read e = absurd cc
behind_lawful (Some text) read e = ranged_lawful (value_at text) read e

up_to_lawful : (first : ℤ) (o : Option (ℤ × List ℕ)) (r : Range) → is_in_base_range first ≡ true
    → ((read : ℤ × List ℕ) → o ≡ Some read → is_in_base_range read.0 ≡ true) → up_to first o ≡ Some r → IsRange r
up_to_lawful first None r h last e = absurd cc
up_to_lawful first (Some read) r h last e = by (is_empty read.1 && int_le first read.0) refl e
  where
    by : (b : Bool) → (is_empty read.1 && int_le first read.0) ≡ b → cond b (Some (Values first read.0)) None ≡ Some r → IsRange r
    by true t f =
        let same : Values first read.0 ≡ r = search (rules, f) in
        subst IsRange same (h, (last read refl, le_of first read.0 (both (is_empty read.1) (int_le first read.0) t).1))
    by false t f = absurd cc

from_lawful : (o : Option (ℤ × List ℕ)) (r : Range) → ((read : ℤ × List ℕ) → o ≡ Some read → is_in_base_range read.0 ≡ true) → range_from o ≡ Some r → IsRange r
from_lawful None r h e = absurd cc
from_lawful (Some read) r h e = by (is_empty read.1) e
  where
    by : (b : Bool) → cond b (Some (Values read.0 read.0)) (up_to read.0 (value_behind (behind_dots read.1))) ≡ Some r → IsRange r
    by true f =
        let same : Values read.0 read.0 ≡ r = search (rules, f) in subst IsRange same (h read refl, (h read refl, le_self read.0))
    by false f =
        up_to_lawful read.0 (value_behind (behind_dots read.1)) r (h read refl) (λ last g. behind_lawful (behind_dots read.1) last g) f

range_lawful : (text : List ℕ) (r : Range) → range_of text ≡ Some r → IsRange r
unfolding range_of
range_lawful text r e = by (is_dash text) e
  where
    by : (b : Bool) → cond b (Some NoLine) (range_from (ranged_value (value_at text))) ≡ Some r → IsRange r
    by true f = let same : NoLine ≡ r = search (rules, f) in subst IsRange same tt
    by false f = from_lawful (ranged_value (value_at text)) r (λ read g. ranged_lawful (value_at text) read g) f

abbrev AreRanges : List Range → Type 0
AreRanges [] = Unit {0}
AreRanges (r ∷ ranges) = IsRange r × AreRanges ranges

front_parts : (r : Range) (o : Option (List Range)) (ranges : List Range) → in_front r o ≡ Some ranges → (more : List Range) × ((o ≡ Some more) × ((r ∷ more) ≡ ranges))
front_parts r None ranges e = absurd cc
front_parts r (Some more) ranges e = let same : (r ∷ more) ≡ ranges = search (rules, e) in (more, (refl, same))

and_lawful : (first : Option Range) (rest : Option (List Range)) (ranges : List Range) → ((r : Range) → first ≡ Some r → IsRange r)
    → ((more : List Range) → rest ≡ Some more → AreRanges more) → range_and first rest ≡ Some ranges → AreRanges ranges × (0 < length ranges)
and_lawful None rest ranges h i e = absurd cc
and_lawful (Some r) rest ranges h i e =
    let p = front_parts r rest ranges e in (
      subst AreRanges p.1.1 (h r refl, i p.0 p.1.0),
      (let long = ap length (sym p.1.1) in omega (arith, long)),
    )

parts_lawful : (parts : List (List ℕ)) (ranges : List Range) → ranges_in parts ≡ Some ranges → AreRanges ranges
parts_lawful [] ranges e = let same : [] ≡ ranges = search (rules, e) in subst AreRanges same tt
parts_lawful (part ∷ parts) ranges e =
    (and_lawful (range_of part) (ranges_in parts) ranges (λ r f. range_lawful part r f) (λ more f. parts_lawful parts more f) e).0

-- ---- what they are

between : (a v b : ℤ) → is_in_base_range a ≡ true → is_in_base_range b ≡ true → a ≤ℤ v → v ≤ℤ b → is_in_base_range v ≡ true
between a (pos n) (pos m) h i le up = let low : n ≤ m = omega (arith, ints, up) in search (rules, i, low)
between a (pos n) (negsuc m) h i le up = absurd (omega (arith, ints, up))
between (negsuc m) (negsuc n) b h i le up = let low : n ≤ m = omega (arith, ints, le) in search (rules, h, low)
between (pos m) (negsuc n) b h i le up = absurd (omega (arith, ints, le))

values_lawful : (first last v : ℤ) (n : ℕ) → is_in_base_range first ≡ true → is_in_base_range last ≡ true → first ≤ℤ v → (v +ℤ pos n) ≤ℤ (last +ℤ pos 1)
    → are_values (values_from v n) ≡ true
values_lawful first last v zero h i le up = refl
values_lawful first last v (suc n) h i le up =
    let here = between first v last h i le (omega (arith, ints, up)) in
    let rest = values_lawful first last (v +ℤ pos 1) n h i (omega (arith, ints, le)) (omega (arith, ints, up)) in
    rw here (rw rest refl)

far : (first last : ℤ) → first ≤ℤ last → (first +ℤ pos (distance first last + 1)) ≤ℤ (last +ℤ pos 1)
far first last le = by (last -ℤ first) refl
  where
    by : (d : ℤ) → last -ℤ first ≡ d → (first +ℤ pos (natural d + 1)) ≤ℤ (last +ℤ pos 1)
    by (pos n) e = omega (arith, ints, e)
    by (negsuc n) e = absurd (omega (arith, ints, e, le))

in_lawful : (r : Range) → IsRange r → are_values (alternatives_in r) ≡ true
in_lawful NoLine h = refl
in_lawful (Values first last) h = values_lawful first last first (distance first last + 1) h.0 h.1.0 (le_self first) (far first last h.1.1)

append_lawful : (xs ys : List (Option ℤ)) → are_values xs ≡ true → are_values ys ≡ true → are_values (xs ++ ys) ≡ true
append_lawful [] ys h i = i
append_lawful (x ∷ xs) ys h i =
    let p = both (is_value x) (are_values xs) h in
    let first = p.0 in
    let rest = append_lawful xs ys p.1 i in
    rw first (rw rest refl)

all_lawful : (ranges : List Range) → AreRanges ranges → are_values (alternatives_of ranges) ≡ true
all_lawful [] h = refl
all_lawful (r ∷ ranges) h = append_lawful (alternatives_in r) (alternatives_of ranges) (in_lawful r h.0) (all_lawful ranges h.1)

some_in : (r : Range) → 0 < length (alternatives_in r)
some_in NoLine = omega arith
some_in (Values first last) = by (distance first last + 1) (omega arith)
  where
    by : (n : ℕ) → 0 < n → 0 < length (values_from first n)
    by zero h = absurd (omega (arith, h))
    by (suc n) h = omega arith

some_of : (ranges : List Range) → 0 < length ranges → 0 < length (alternatives_of ranges)
some_of [] h = absurd (omega (arith, h))
some_of (r ∷ ranges) h =
    let one = some_in r in
    let sum = length-append (alternatives_in r) (alternatives_of ranges) in
    omega (arith, one, sum)

some_parts : (text : List ℕ) → (first : List ℕ) × ((rest : List (List ℕ)) × (slice_split is_bar text ≡ first ∷ rest))
some_parts [] = ([], ([], refl))
some_parts (c ∷ text) = by (is_bar c) (some_parts text)
  where
    onto : (parts : List (List ℕ)) → (first : List ℕ) × ((rest : List (List ℕ)) × (onto_first c parts ≡ first ∷ rest))
    onto [] = (c ∷ [], ([], refl))
    onto (part ∷ parts) = (c ∷ part, (parts, refl))

    by : (b : Bool) → (first : List ℕ) × ((rest : List (List ℕ)) × (slice_split is_bar text ≡ first ∷ rest))
        → (first : List ℕ) × ((rest : List (List ℕ)) × (cond b ([] ∷ slice_split is_bar text) (onto_first c (slice_split is_bar text)) ≡ first ∷ rest))
    by true h = ([], (slice_split is_bar text, refl))
    by false h = onto (slice_split is_bar text)

pub ranges_lawful : (text : List ℕ) (ranges : List Range) → Some ranges ≡ ranges_of text
    → (are_values (alternatives_of ranges) ≡ true) × (0 < length (alternatives_of ranges))
ranges_lawful text ranges e =
    let p = some_parts text in
    let split : range_and (range_of p.0) (ranges_in p.1.0) ≡ Some ranges = ap ranges_in (sym p.1.1) ∙ sym e in
    let both_of = and_lawful (range_of p.0) (ranges_in p.1.0) ranges (λ r f. range_lawful p.0 r f) (λ more f. parts_lawful p.1.0 more f) split in
    (all_lawful ranges both_of.0, some_of ranges both_of.1)
