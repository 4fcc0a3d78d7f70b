-- A channel that a slot gives a value, whichever alternative is taken, has the same input from then on whatever it was before.
use Rattle.std.proofs.Common.{◌≡◌, ℕ, zero, suc, ◌<◌, ◌≤◌, ℤ, List, [], ◌∷◌, ◌++◌, Option, Some, None, false, true, cond, drop, get_or, length, inl, inr, refl, sym, ap, subst, ◌∙◌, arith, rules}
use Rattle.std.specs.List.{list_all}
use Rattle.std.specs.Prelude.{◌&&◌, int_le, is_some, nat_eq, slice_get}
use Rattle.base.specs.Schedule.{input_after, is_heard}
use Rattle.base.specs.declared.schedule.ScheduleLine.{ScheduleLine}
use Rattle.choices.specs.Places.{AreWithin, flat}
use Rattle.choices.specs.Slots.{Slot, line_of}
use Rattle.searching.specs.Meeting.{IsSetAnew, SetsAnew, schedule_of}

given_at : (alternatives : List (Option ℤ)) (place : ℕ) → list_all is_some alternatives ≡ true → place < length alternatives
    → (value : ℤ) × (flat (slice_get alternatives place) ≡ Some value)
given_at [] place given lt = absurd (omega (arith, lt))
given_at (None ∷ alternatives) place given lt = absurd (let no : false ≡ true = given in cc)
given_at (Some value ∷ alternatives) zero given lt = (value, refl)
given_at (Some value ∷ alternatives) (suc place) given lt = given_at alternatives place given (omega (arith, lt))

same_number : (m n : ℕ) → m ≡ n → nat_eq m n ≡ true
same_number m n e = search (rules, e)

-- the line of the slot is heard from its time on
heard : (time : ℤ) (channel : ℕ) (s : Slot) (value now : ℤ) → SetsAnew time channel s → int_le time now ≡ true
    → is_heard channel now (record { time = s.time; channel = s.channel; value = value }) ≡ true
heard time channel s value now sets le =
    ap (λ b. b && int_le s.time now) (same_number s.channel channel sets.channel_is) ∙ subst (λ z. int_le z now ≡ true) (sym sets.time_is) le

by_line : (s : Slot) (a : Option ℤ) (value : ℤ) (rest : List ScheduleLine) (channel : ℕ) (v w now : ℤ) → a ≡ Some value
    → is_heard channel now (record { time = s.time; channel = s.channel; value = value }) ≡ true
    → input_after v (line_of s a ++ rest) channel now ≡ input_after w (line_of s a ++ rest) channel now
by_line s a value rest channel v w now is h =
    subst (λ o. input_after v (line_of s o ++ rest) channel now ≡ input_after w (line_of s o ++ rest) channel now) (sym is)
    (ap (λ b. input_after (cond b value v) rest channel now) h ∙ sym (ap (λ b. input_after (cond b value w) rest channel now) h))

by_rest : (s : Slot) (a : Option ℤ) (rest : List ScheduleLine) (channel : ℕ) (now : ℤ)
    → ((v w : ℤ) → input_after v rest channel now ≡ input_after w rest channel now) → (v w : ℤ)
    → input_after v (line_of s a ++ rest) channel now ≡ input_after w (line_of s a ++ rest) channel now
by_rest s None rest channel now same v w = same v w
by_rest s (Some value) rest channel now same v w =
    let l : ScheduleLine = record { time = s.time; channel = s.channel; value = value } in
    same (cond (is_heard channel now l) value v) (cond (is_heard channel now l) value w)

pub set_anew : (time : ℤ) (channel : ℕ) (slots : List Slot) (places : List ℕ) → IsSetAnew time channel slots → AreWithin slots places → (v w now : ℤ)
    → int_le time now ≡ true → input_after v (schedule_of slots places) channel now ≡ input_after w (schedule_of slots places) channel now
set_anew time channel [] places is within v w now le = absurd is
set_anew time channel (s ∷ slots) [] is within v w now le = absurd within
set_anew time channel (s ∷ slots) (p ∷ places) (inl sets) within v w now le =
    let given = given_at s.alternatives p sets.given within.0 in
    by_line s (flat (slice_get s.alternatives p)) given.0 (schedule_of slots places) channel v w now given.1 (heard time channel s given.0 now sets le)
set_anew time channel (s ∷ slots) (p ∷ places) (inr more) within v w now le =
    by_rest s (flat (slice_get s.alternatives p)) (schedule_of slots places) channel now
    (λ x y. set_anew time channel slots places more within.1 x y now le) v w

set_among : (time : ℤ) (channel : ℕ) (n : ℕ) (slots : List Slot) (s : Slot) → s ≡ get_or slots n s → n < length slots → SetsAnew time channel s
    → IsSetAnew time channel slots
set_among time channel n [] s is lt sets = absurd (omega (arith, lt))
set_among time channel zero (x ∷ slots) s is lt sets = inl (subst (SetsAnew time channel) is sets)
set_among time channel (suc n) (x ∷ slots) s is lt sets = inr (set_among time channel n slots s is (omega (arith, lt)) sets)

-- a slot behind the front does so
pub set_behind : (time : ℤ) (channel : ℕ) (front n : ℕ) (slots : List Slot) (s : Slot) → s ≡ get_or slots n s → n < length slots → front ≤ n
    → SetsAnew time channel s → IsSetAnew time channel (drop front slots)
set_behind time channel zero n slots s is lt le sets = set_among time channel n slots s is lt sets
set_behind time channel (suc front) n [] s is lt le sets = absurd (omega (arith, lt))
set_behind time channel (suc front) zero (x ∷ slots) s is lt le sets = absurd (omega (arith, le))
set_behind time channel (suc front) (suc n) (x ∷ slots) s is lt le sets =
    set_behind time channel front n slots s is (omega (arith, lt)) (omega (arith, le)) sets
