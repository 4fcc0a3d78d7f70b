-- The slots of the lines that were read so far.
use Rattle.std.proofs.Common.{◌≡◌, ℕ, zero, suc, ◌+◌, ◌-◌, ◌*◌, ◌<◌, ◌≤◌, ℤ, pos, List, [], ◌∷◌, ◌++◌, length, Option, Some, None, Bool, true, false, cond, refl, sym, ap, subst, ◌∙◌, arith, length-append, rules}
use Rattle.std.specs.Prelude.{◌&&◌, ◌/◌, ◌^◌, int_le, int_lt, nat_le, nat_lt, not, take, drop}
use Rattle.std.specs.List.{prefix_len}
use Rattle.std.proofs.Math.Nat.{div-mul-le_self, suc-mul}
use Rattle.std.proofs.lemmas.Int.{ints}
use Rattle.base.specs.declared.limits.TheConstants.{SCHEDULE_LINES}
use Rattle.base.specs.declared.limits.TheConstants.{CHANNELS}
use Rattle.clock.specs.Schedules.{is_channel}
use Rattle.choices.specs.Faults.{AreLawful, BeginsWithSlotLines, rule_broken, slots_in}
use Rattle.choices.specs.Shapes.{AreLawfulTimes, IsNextLine}
use Rattle.choices.specs.declared.faults.TheConstants.{SAME_ALTERNATIVE, SLOT_TOO_LATE, TOO_MANY_ALTERNATIVES, TOO_MANY_SLOTS, UNKNOWN_CHANNEL}
use Rattle.choices.specs.declared.form.Times.{Times}
use Rattle.choices.specs.declared.set.Line.{Line}
use Rattle.choices.specs.declared.slot.TheConstants.{ALTERNATIVES}
use Rattle.choices.specs.Sets.{insert, slots_from, slots_of, with_lines, with_slots}
use Rattle.choices.specs.Slots.{Slot, are_each_slots, are_ordered_from, are_slots, are_values, is_slot}
use Rattle.choices.specs.Texts.{SlotLine, alternatives_of, count_of, has_twice, latest, line_at}

-- lines were read that break no rule, of a text of which this is left; the slots are theirs, and this is the number of the next line
pub record Reading (until : ℤ) (text rest : List ℕ) (slots : List Slot) (number : ℕ) : Type 0 where
  pub lines : List SlotLine
  pub begins : BeginsWithSlotLines text lines rest
  pub lawful : AreLawful until 0 lines
  pub slots_are : slots ≡ with_lines [] lines
  pub number_is : number ≡ length lines + 1
  pub count : length slots ≡ slots_in lines
  pub few : length lines ≤ slots_in lines
  pub are_slots : are_slots slots ≡ true

inserted : (s : Slot) (slots : List Slot)
    → take (prefix_len (λ t. int_le t.time s.time) slots) slots ++ s ∷ drop (prefix_len (λ t. int_le t.time s.time) slots) slots ≡ insert s slots
inserted s [] = refl
inserted s (t ∷ slots) = by (int_le t.time s.time) (prefix_len (λ x. int_le x.time s.time) slots) (inserted s slots)
  where
    by : (b : Bool) (n : ℕ) → take n slots ++ s ∷ drop n slots ≡ insert s slots
        → take (cond b (1 + n) 0) (t ∷ slots) ++ s ∷ drop (cond b (1 + n) 0) (t ∷ slots) ≡ cond b (t ∷ insert s slots) (s ∷ t ∷ slots)
    by true n h =
        let f : suc n ≡ 1 + n = omega arith in
        subst (λ m. take m (t ∷ slots) ++ s ∷ drop m (t ∷ slots) ≡ t ∷ insert s slots) f (ap (λ l. t ∷ l) h)
    by false n h = refl

pub inserted_at : (s : Slot) (slots lent : List Slot) (time : ℤ) (n : ℕ) → lent ≡ slots → time ≡ s.time → n ≡ prefix_len (λ t. int_le t.time time) lent
    → take n slots ++ s ∷ drop n slots ≡ insert s slots
inserted_at s slots lent time n same at is =
    ap (λ m. take m slots ++ s ∷ drop m slots) (is ∙ (λ i. prefix_len (λ t. int_le t.time (at i)) (same i))) ∙ inserted s slots

-- ---- what is kept as slots are added

both : (a b : Bool) → (a && b) ≡ true → (a ≡ true) × (b ≡ true)
both true true h = (refl, refl)
both true false h = absurd cc
both false b h = absurd cc

length_insert : (s : Slot) (slots : List Slot) → length (insert s slots) ≡ suc (length slots)
length_insert s [] = refl
length_insert s (t ∷ slots) = by (int_le t.time s.time) (length_insert s slots)
  where
    by : (b : Bool) → length (insert s slots) ≡ suc (length slots) → length (cond b (t ∷ insert s slots) (s ∷ t ∷ slots)) ≡ suc (suc (length slots))
    by true h = ap suc h
    by false h = refl

length_with : (slots more : List Slot) → length (with_slots slots more) ≡ length slots + length more
length_with slots [] = omega arith
length_with slots (s ∷ more) =
    let h = length_with (insert s slots) more in
    let i = length_insert s slots in
    omega (arith, h, i)

length_from : (time step channel : ℕ) (alternatives : List (Option ℤ)) (n : ℕ) → length (slots_from time step channel alternatives n) ≡ n
length_from time step channel alternatives zero = refl
length_from time step channel alternatives (suc n) = ap suc (length_from (time + step) step channel alternatives n)

lawful_insert : (s : Slot) (slots : List Slot) → is_slot s ≡ true → are_each_slots slots ≡ true → are_each_slots (insert s slots) ≡ true
lawful_insert s [] h l = rw h refl
lawful_insert s (t ∷ slots) h l = by (int_le t.time s.time) (both (is_slot t) (are_each_slots slots) l) (lawful_insert s slots h (both (is_slot t) (are_each_slots slots) l).1)
  where
    by : (b : Bool) → (is_slot t ≡ true) × (are_each_slots slots ≡ true) → are_each_slots (insert s slots) ≡ true
        → are_each_slots (cond b (t ∷ insert s slots) (s ∷ t ∷ slots)) ≡ true
    by true p i = rw p.0 (rw i refl)
    by false p i = rw h (rw p.0 (rw p.1 refl))

later_of : (a b : ℤ) → int_le b a ≡ false → int_le a b ≡ true
later_of a b h = grind (arith, ints)

-- the first is not before a time, and the rest is in order
ordered_insert : (time : ℤ) (s : Slot) (slots : List Slot) → int_le time s.time ≡ true → are_ordered_from time slots ≡ true → are_ordered_from time (insert s slots) ≡ true
ordered_insert time s [] h o = rw h refl
ordered_insert time s (t ∷ slots) h o =
    let p = both (int_le time t.time) (are_ordered_from t.time slots) o in
    by (int_le t.time s.time) refl p (λ le. ordered_insert t.time s slots le p.1)
  where
    by : (b : Bool) → int_le t.time s.time ≡ b → (int_le time t.time ≡ true) × (are_ordered_from t.time slots ≡ true)
        → (int_le t.time s.time ≡ true → are_ordered_from t.time (insert s slots) ≡ true)
        → are_ordered_from time (cond b (t ∷ insert s slots) (s ∷ t ∷ slots)) ≡ true
    by true e p go = let i = go e in rw p.0 (rw i refl)
    by false e p go = let i = later_of s.time t.time e in rw h (rw i (rw p.1 refl))

-- each of them may be added
abbrev AreLawfulSlots : List Slot → Type 0
AreLawfulSlots [] = Unit {0}
AreLawfulSlots (s ∷ more) = (is_slot s ≡ true) × ((int_le (pos 0) s.time ≡ true) × AreLawfulSlots more)

kept_with : (slots more : List Slot) → AreLawfulSlots more → are_each_slots slots ≡ true → are_ordered_from (pos 0) slots ≡ true
    → (are_each_slots (with_slots slots more) ≡ true) × (are_ordered_from (pos 0) (with_slots slots more) ≡ true)
kept_with slots [] h l o = (l, o)
kept_with slots (s ∷ more) h l o = kept_with (insert s slots) more h.1.1 (lawful_insert s slots h.0 l) (ordered_insert (pos 0) s slots h.1.0 o)

-- ---- a line more

begins_more : (text : List ℕ) (lines : List SlotLine) (rest : List ℕ) (line : SlotLine) (behind : List ℕ) → BeginsWithSlotLines text lines rest
    → line_at rest ≡ Some (line, behind) → BeginsWithSlotLines text (lines ++ line ∷ []) behind
begins_more text [] rest line behind h is = (behind, ap line_at h ∙ is, refl)
begins_more text (l ∷ lines) rest line behind h is = (h.0, h.1, begins_more h.0 lines rest line behind h.2 is)

lawful_more : (until : ℤ) (n : ℕ) (lines : List SlotLine) (line : SlotLine) → AreLawful until n lines → rule_broken until (n + slots_in lines) line ≡ None
    → AreLawful until n (lines ++ line ∷ [])
lawful_more until n [] line h is = let e : n + 0 ≡ n = omega arith in (subst (λ m. rule_broken until m line ≡ None) e is, tt)
lawful_more until n (l ∷ lines) line h is =
    let e : n + slots_in (l ∷ lines) ≡ (n + count_of l.times) + slots_in lines = omega arith in
    (h.0, lawful_more until (n + count_of l.times) lines line h.1 (subst (λ m. rule_broken until m line ≡ None) e is))

slots_more : (lines : List SlotLine) (line : SlotLine) → slots_in (lines ++ line ∷ []) ≡ slots_in lines + count_of line.times
slots_more [] line = omega arith
slots_more (l ∷ lines) line = let h = slots_more lines line in omega (arith, h)

lines_more : (slots : List Slot) (lines : List SlotLine) (line : SlotLine) → with_lines slots (lines ++ line ∷ []) ≡ with_slots (with_lines slots lines) (slots_of line)
lines_more slots [] line = refl
lines_more slots (l ∷ lines) line = lines_more (with_slots slots (slots_of l)) lines line

-- the slots of a line are lawful
slot_lawful : (time channel : ℕ) (alternatives : List (Option ℤ)) → time < 2 ^ 63 → is_channel channel ≡ true → are_values alternatives ≡ true → 0 < length alternatives
    → is_slot (record { time = pos time; channel = channel; alternatives = alternatives }) ≡ true
slot_lawful time channel alternatives h i j k =
    let a : int_le (pos 0) (pos time) ≡ true = grind (arith, ints) in
    let b : nat_lt time (2 ^ 63) ≡ true = search (rules, h) in
    let c = both (nat_le 1 channel) (nat_le channel CHANNELS) i in
    let d : nat_lt 0 (length alternatives) ≡ true = search (rules, k) in
    all _ _ _ _ _ _ a b c.0 c.1 j d
  where
    all : (p q r s t u : Bool) → p ≡ true → q ≡ true → r ≡ true → s ≡ true → t ≡ true → u ≡ true → (p && q && r && s && (t && u)) ≡ true
    all p q r s t u a b c d e f = rw a (rw b (rw c (rw d (rw e (rw f refl)))))

slots_lawful : (n time step channel last : ℕ) (alternatives : List (Option ℤ)) → (0 < n → time + (n - 1) * step ≤ last) → last < 2 ^ 63 → is_channel channel ≡ true
    → are_values alternatives ≡ true → 0 < length alternatives → AreLawfulSlots (slots_from time step channel alternatives n)
slots_lawful zero time step channel last alternatives up low i j k = tt
slots_lawful (suc n) time step channel last alternatives up low i j k =
    let here : time < 2 ^ 63 = (let h = up (omega arith) in omega (arith, h, low)) in
    let a : int_le (pos 0) (pos time) ≡ true = grind (arith, ints) in (
      slot_lawful time channel alternatives here i j k,
      (a, slots_lawful n (time + step) step channel last alternatives (later n (up (omega arith))) low i j k),
    )
  where
    later : (n : ℕ) → time + (suc n - 1) * step ≤ last → 0 < n → (time + step) + (n - 1) * step ≤ last
    later zero h some = absurd (omega (arith, some))
    later (suc n) h some =
        let one : suc (suc n) - 1 ≡ suc n = omega arith in
        let two : suc n - 1 ≡ n = omega arith in
        let e : (suc (suc n) - 1) * step ≡ suc n * step = ap (λ m. m * step) one in
        let f : (suc n - 1) * step ≡ n * step = ap (λ m. m * step) two in
        let g = suc-mul n step in
        omega (arith, h, e, f, g)

count_up : (t : Times) → AreLawfulTimes t → 0 < count_of t → t.first + (count_of t - 1) * t.step ≤ t.last
count_up t h some =
    let steps = (t.last - t.first) / t.step in
    let one : count_of t - 1 ≡ steps = omega arith in
    let e : (count_of t - 1) * t.step ≡ steps * t.step = ap (λ m. m * t.step) one in
    let low = div-mul-le_self (t.last - t.first) t.step in
    let on = h.on in
    omega (arith, e, low, on)

lawful_channel : (until : ℤ) (slots : ℕ) (l : SlotLine) → rule_broken until slots l ≡ None → (is_channel l.channel ≡ true) × (slots + count_of l.times ≤ SCHEDULE_LINES)
lawful_channel until slots l e =
    by (is_channel l.channel) (nat_lt ALTERNATIVES (length (alternatives_of l.ranges))) (has_twice l.ranges) (nat_lt SCHEDULE_LINES (slots + count_of l.times)) refl refl e
  where
    by : (p q r s : Bool) → is_channel l.channel ≡ p → nat_lt SCHEDULE_LINES (slots + count_of l.times) ≡ s
        → cond (not p) (Some UNKNOWN_CHANNEL)
        (cond q (Some TOO_MANY_ALTERNATIVES)
        (cond r (Some SAME_ALTERNATIVE) (cond s (Some TOO_MANY_SLOTS) (cond (int_lt until (pos (latest l.times))) (Some SLOT_TOO_LATE) None)))) ≡ None
        → (is_channel l.channel ≡ true) × (slots + count_of l.times ≤ SCHEDULE_LINES)
    by true false false false t u f = let le : slots + count_of l.times ≤ SCHEDULE_LINES = search (rules, u) in (t, le)
    by true false false true t u f = absurd cc
    by true false true s t u f = absurd cc
    by true true r s t u f = absurd cc
    by false q r s t u f = absurd cc

all_kept : (slots : List Slot) → length slots ≤ SCHEDULE_LINES → are_each_slots slots ≡ true → are_ordered_from (pos 0) slots ≡ true → are_slots slots ≡ true
all_kept slots le h o = let few : nat_le (length slots) SCHEDULE_LINES ≡ true = search (rules, le) in rw few (rw h (rw o refl))

parts_kept : (slots : List Slot) → are_slots slots ≡ true → (are_each_slots slots ≡ true) × (are_ordered_from (pos 0) slots ≡ true)
parts_kept slots h =
    let p = both (nat_le (length slots) SCHEDULE_LINES && are_each_slots slots) (are_ordered_from (pos 0) slots) h in
    ((both (nat_le (length slots) SCHEDULE_LINES) (are_each_slots slots) p.0).1, p.1)

pub reading_more : (until : ℤ) (text rest : List ℕ) (slots later : List Slot) (number : ℕ) (line : Line) (behind : List ℕ) (n : ℕ) → n ≡ length slots
    → Reading until text rest slots number → IsNextLine until n rest line behind
    → later ≡ with_slots slots (slots_from line.times.first line.times.step line.channel line.alternatives.items (count_of line.times))
    → Reading until text behind later (number + 1) × (length later ≡ length slots + count_of line.times)
reading_more until text rest slots later number line behind n is r next made =
    let l = next.text in
    let same : slots_from line.times.first line.times.step line.channel line.alternatives.items (count_of line.times) ≡ slots_of l =
    (λ j. slots_from (next.times j).first (next.times j).step (next.channel j) (next.alternatives j) (count_of (next.times j))) in
    let more : later ≡ with_slots slots (slots_of l) = made ∙ ap (with_slots slots) same in
    let at : n ≡ 0 + slots_in r.lines = (let a = r.count in omega (arith, is, a)) in
    let broken = subst (λ m. rule_broken until m l ≡ None) at next.lawful in
    let c = lawful_channel until (0 + slots_in r.lines) l broken in
    let long : length later ≡ length slots + count_of l.times =
    ap length more ∙ (length_with slots (slots_of l) ∙ ap (λ m. length slots + m) (length_from l.times.first l.times.step l.channel (alternatives_of l.ranges) (count_of l.times))) in
    let kept = parts_kept slots r.are_slots in
    let lawful = slots_lawful (count_of l.times) l.times.first l.times.step l.channel l.times.last (alternatives_of l.ranges) (count_up l.times next.lawful_times) next.lawful_times.last c.0 next.values next.some in
    let both_of = kept_with slots (slots_of l) lawful kept.0 kept.1 in
    let sum = slots_more r.lines l in
    let longer = length-append r.lines (l ∷ []) in (
      record {
        lines = r.lines ++ l ∷ [];
        begins = begins_more text r.lines rest l behind r.begins next.begins;
        lawful = lawful_more until 0 r.lines l r.lawful broken;
        slots_are = more ∙ ap (λ s. with_slots s (slots_of l)) r.slots_are ∙ sym (lines_more [] r.lines l);
        number_is = (let a = r.number_is in omega (arith, a, longer));
        count = (let a = r.count in omega (arith, a, long, sum));
        few = (let a = r.few in omega (arith, a, longer, sum));
        are_slots =
            all_kept later (let a = r.count in let b = c.1 in omega (arith, a, b, long))
            (subst (λ s. are_each_slots s ≡ true) (sym more) both_of.0) (subst (λ s. are_ordered_from (pos 0) s ≡ true) (sym more) both_of.1);
      },
      long ∙ ap (λ t. length slots + count_of t) (sym next.times),
    )

pub few_slots : (until : ℤ) (text rest : List ℕ) (slots : List Slot) (number : ℕ) → Reading until text rest slots number → length slots ≤ SCHEDULE_LINES
few_slots until text rest slots number r =
    let p = both (nat_le (length slots) SCHEDULE_LINES && are_each_slots slots) (are_ordered_from (pos 0) slots) r.are_slots in
    let few = (both (nat_le (length slots) SCHEDULE_LINES) (are_each_slots slots) p.0).0 in
    search (rules, few)
