-- Each schedule of a set is one: its lines are lawful, in order, and not too many.
use Rattle.std.proofs.Common.{◌≡◌, ℕ, zero, suc, ◌≤◌, ℤ, pos, negsuc, ◌<◌, ◌^◌, List, [], ◌∷◌, length, Option, Some, None, Bool, true, refl, subst, arith, int_le, nat_le, get_or, of_z, to_z, w64, rules}
use Rattle.std.specs.Prelude.{◌&&◌, slice_get, nat_lt}
use Rattle.std.proofs.lemmas.Int.{ints}
use Rattle.base.specs.Arithmetic.{is_in_base_range}
use Rattle.base.specs.Schedule as schedules
use Rattle.base.specs.declared.limits.TheConstants.{CHANNELS, SCHEDULE_LINES}
use Rattle.choices.specs.Slots.{IsChoiceAmong, Slot, are_each_slots, are_ordered_from, are_slots, are_values, is_slot, is_value, lines_of}
use Rattle.choices.proofs.Order.{alternatives_lawful, both}

le_trans_z : (a b c : ℤ) → int_le a b ≡ true → int_le b c ≡ true → int_le a c ≡ true
le_trans_z a b c h i = search (rules, h, i)

value_among : (alternatives : List (Option ℤ)) (place : ℕ) (a : Option ℤ) → are_values alternatives ≡ true → slice_get alternatives place ≡ Some a → is_value a ≡ true
value_among [] place a h e = absurd cc
value_among (x ∷ alternatives) zero a h e = let f : x ≡ a = search (rules, e) in subst (λ y. is_value y ≡ true) f (both (is_value x) (are_values alternatives) h).0
value_among (x ∷ alternatives) (suc place) a h e = value_among alternatives place a (both (is_value x) (are_values alternatives) h).1 e

few_lines : (slots : List Slot) (choice : List (Option ℤ)) → length (lines_of slots choice) ≤ length slots
few_lines [] choice = omega arith
few_lines (s ∷ slots) [] = omega arith
few_lines (s ∷ slots) (None ∷ choice) = let h = few_lines slots choice in omega (arith, h)
few_lines (s ∷ slots) (Some v ∷ choice) = let h = few_lines slots choice in omega (arith, h)

line_lawful : (s : Slot) (v : ℤ) → is_slot s ≡ true → is_in_base_range v ≡ true → schedules.is_line (record { time = s.time; channel = s.channel; value = v }) ≡ true
line_lawful s v h i = by (int_le (pos 0) s.time) (is_in_base_range s.time) (nat_le 1 s.channel) (nat_le s.channel CHANNELS) (are_values s.alternatives && nat_lt 0 (length s.alternatives)) (is_in_base_range v) h i
  where
    by : (a b c d e f : Bool) → (a && b && c && d && e) ≡ true → f ≡ true → (a && b && c && d && f) ≡ true
    by a b c d e f h i = let x = both (a && b && c && d) e h in rw x.0 (rw i refl)

lines_lawful : (slots : List Slot) (choice : List (Option ℤ)) → are_each_slots slots ≡ true → IsChoiceAmong slots choice → schedules.are_lines (lines_of slots choice) ≡ true
lines_lawful [] [] h c = refl
lines_lawful [] (a ∷ choice) h c = absurd c
lines_lawful (s ∷ slots) [] h c = absurd c
lines_lawful (s ∷ slots) (None ∷ choice) h c = lines_lawful slots choice (both (is_slot s) (are_each_slots slots) h).1 c.1
lines_lawful (s ∷ slots) (Some v ∷ choice) h c =
    let p = both (is_slot s) (are_each_slots slots) h in
    let values = (alternatives_lawful s p.0).0 in
    let first = line_lawful s v p.0 (value_among s.alternatives c.0.0 (Some v) values c.0.1) in
    let rest = lines_lawful slots choice p.1 c.1 in
    rw first (rw rest refl)

ordered_later : (time : ℤ) (s : ℤ) (slots : List Slot) → int_le time s ≡ true → are_ordered_from s slots ≡ true → are_ordered_from time slots ≡ true
ordered_later time s [] h o = refl
ordered_later time s (t ∷ slots) h o =
    let p = both (int_le s t.time) (are_ordered_from t.time slots) o in
    let first = le_trans_z time s t.time h p.0 in
    let rest = p.1 in
    rw first (rw rest refl)

lines_ordered : (time : ℤ) (slots : List Slot) (choice : List (Option ℤ)) → are_ordered_from time slots ≡ true → schedules.are_ordered_from time (lines_of slots choice) ≡ true
lines_ordered time [] choice o = refl
lines_ordered time (s ∷ slots) [] o = refl
lines_ordered time (s ∷ slots) (None ∷ choice) o =
    let p = both (int_le time s.time) (are_ordered_from s.time slots) o in
    lines_ordered time slots choice (ordered_later time s.time slots p.0 p.1)
lines_ordered time (s ∷ slots) (Some v ∷ choice) o =
    let p = both (int_le time s.time) (are_ordered_from s.time slots) o in
    let first = p.0 in
    let rest = lines_ordered s.time slots choice p.1 in
    rw first (rw rest refl)

few : (m n : ℕ) → m ≤ n → nat_le n SCHEDULE_LINES ≡ true → nat_le m SCHEDULE_LINES ≡ true
few m n le h = search (rules, le, h)

all_three : (a b c : Bool) → a ≡ true → b ≡ true → c ≡ true → (a && b && c) ≡ true
all_three a b c h i j = rw h (rw i (rw j refl))

pub schedule_of_choice : (slots : List Slot) (choice : List (Option ℤ)) → are_slots slots ≡ true → IsChoiceAmong slots choice → schedules.is_schedule (lines_of slots choice) ≡ true
schedule_of_choice slots choice h c =
    let p = both (nat_le (length slots) SCHEDULE_LINES && are_each_slots slots) (are_ordered_from (pos 0) slots) h in
    let q = both (nat_le (length slots) SCHEDULE_LINES) (are_each_slots slots) p.0 in
    all_three _ _ _ (few (length (lines_of slots choice)) (length slots) (few_lines slots choice) q.0) (lines_lawful slots choice q.1 c) (lines_ordered (pos 0) slots choice p.1)

pub each_lawful : (slots : List Slot) → are_slots slots ≡ true → are_each_slots slots ≡ true
each_lawful slots h =
    let p = both (nat_le (length slots) SCHEDULE_LINES && are_each_slots slots) (are_ordered_from (pos 0) slots) h in
    (both (nat_le (length slots) SCHEDULE_LINES) (are_each_slots slots) p.0).1

-- ---- the time of a slot in 64 bits

pub same_bits : (t : ℤ) → is_in_base_range t ≡ true → to_z w64 (of_z w64 t) ≡ t
same_bits (pos n) h = let less : n < 2 ^ 63 = search (rules, h) in omega (arith, ints, less)
same_bits (negsuc n) h = let less : n < 2 ^ 63 = search (rules, h) in omega (arith, ints, less)

second : (a b c d e : Bool) → (a && b && c && d && e) ≡ true → b ≡ true
second a b c d e h = (both a b (both (a && b) c (both (a && b && c) d (both (a && b && c && d) e h).0).0).0).1

pub time_lawful : (n : ℕ) (slots : List Slot) (d : Slot) → are_each_slots slots ≡ true → n < length slots → is_in_base_range (get_or slots n d).time ≡ true
time_lawful n [] d h less = absurd (omega (arith, less))
time_lawful zero (s ∷ slots) d h less =
    second (int_le (pos 0) s.time) (is_in_base_range s.time) (nat_le 1 s.channel) (nat_le s.channel CHANNELS) (are_values s.alternatives && nat_lt 0 (length s.alternatives))
    (both (is_slot s) (are_each_slots slots) h).0
time_lawful (suc n) (s ∷ slots) d h less = time_lawful n slots d (both (is_slot s) (are_each_slots slots) h).1 (omega (arith, less))
