-- From the last slot back to the one that takes a further alternative.
use Rattle.std.proofs.Common.{◌≡◌, ℕ, zero, suc, ◌+◌, ◌-◌, ◌<◌, ◌≤◌, List, [], ◌∷◌, ◌++◌, length, drop, take, get_or, set, Some, None, Bool, true, false, cond, refl, sym, ap, subst, ◌∙◌, arith, rules}
use Rattle.std.specs.Prelude.{nat_lt}
use Rattle.std.proofs.Math.Seq.{drop-length, take-length}
use Rattle.std.proofs.lemmas.List.{append-nil, drop_more}
use Rattle.choices.specs.Slots.{Slot, are_each_slots, is_slot}
use Rattle.choices.proofs.Order.{both, firsts_within}
use Rattle.choices.specs.Places.{AreWithin, firsts, next, next_by}

pub long_as : (slots : List Slot) (ps : List ℕ) → AreWithin slots ps → length ps ≡ length slots
long_as [] [] w = refl
long_as [] (p ∷ ps) w = absurd w
long_as (s ∷ slots) [] w = absurd w
long_as (s ∷ slots) (p ∷ ps) w = ap suc (long_as slots ps w.1)

-- a next one of the slots after some is a next one of all
pub next_behind : (at : ℕ) (slots : List Slot) (ps qs : List ℕ) → AreWithin slots ps → next (drop at slots) (drop at ps) ≡ Some qs → next slots ps ≡ Some (take at ps ++ qs)
next_behind zero slots ps qs w h = h
next_behind (suc at) [] [] qs w h = absurd cc
next_behind (suc at) [] (p ∷ ps) qs w h = absurd w
next_behind (suc at) (s ∷ slots) [] qs w h = absurd w
next_behind (suc at) (s ∷ slots) (p ∷ ps) qs w h = ap (next_by s p slots) (next_behind at slots ps qs w.1 h)

-- ---- the place of one slot, where those before it stand as they were

pub front_same : (n at : ℕ) (old ys : List ℕ) → n < at → at ≤ length old → get_or (take at old ++ ys) n 0 ≡ get_or old n 0
front_same n zero old ys h le = absurd (omega (arith, h))
front_same n (suc at) [] ys h le = absurd (omega (arith, le))
front_same zero (suc at) (x ∷ old) ys h le = refl
front_same (suc n) (suc at) (x ∷ old) ys h le = front_same n at old ys (omega (arith, h)) (omega (arith, le))

pub set_front : (n : ℕ) (old ys : List ℕ) (v : ℕ) → n < length old → set (take (suc n) old ++ ys) n v ≡ take n old ++ v ∷ ys
set_front n [] ys v h = absurd (omega (arith, h))
set_front zero (x ∷ old) ys v h = refl
set_front (suc n) (x ∷ old) ys v h = ap (λ l. x ∷ l) (set_front n old ys v (omega (arith, h)))

pub within_at : (n : ℕ) (slots : List Slot) (old : List ℕ) (d : Slot) → AreWithin slots old → n < length old → get_or old n 0 < length (get_or slots n d).alternatives
within_at n [] [] d w h = absurd (omega (arith, h))
within_at n [] (p ∷ old) d w h = absurd w
within_at n (s ∷ slots) [] d w h = absurd w
within_at zero (s ∷ slots) (p ∷ old) d w h = w.0
within_at (suc n) (s ∷ slots) (p ∷ old) d w h = within_at n slots old d w.1 (omega (arith, h))

within_changed : (n : ℕ) (slots : List Slot) (old : List ℕ) (d : Slot) (v : ℕ) → AreWithin slots old → n < length old → v < length (get_or slots n d).alternatives
    → are_each_slots slots ≡ true → AreWithin slots (take n old ++ v ∷ firsts (drop (suc n) slots))
within_changed n [] [] d v w h less lawful = absurd (omega (arith, h))
within_changed n [] (p ∷ old) d v w h less lawful = absurd w
within_changed n (s ∷ slots) [] d v w h less lawful = absurd w
within_changed zero (s ∷ slots) (p ∷ old) d v w h less lawful = (less, firsts_within slots (both (is_slot s) (are_each_slots slots) lawful).1)
within_changed (suc n) (s ∷ slots) (p ∷ old) d v w h less lawful =
    (w.0, within_changed n slots old d v w.1 (omega (arith, h)) less (both (is_slot s) (are_each_slots slots) lawful).1)

pub starts_whole : (slots : List Slot) (old : List ℕ) → AreWithin slots old
    → (old ≡ take (length slots) old ++ firsts (drop (length slots) slots))
    × ((next (drop (length slots) slots) (drop (length slots) old) ≡ None) × (length slots ≤ length slots))
starts_whole slots old w =
    let none = drop-length slots in (
      sym (append-nil old) ∙ ap (λ l. l ++ []) (sym (take-length old) ∙ ap (λ n. take n old) (long_as slots old w))
          ∙ ap (λ l. take (length slots) old ++ firsts l) (sym none),
      (ap (λ l. next l (drop (length slots) old)) none, omega arith),
    )

module _ (slots : List Slot) (old : List ℕ) (n : ℕ) (s : Slot) (w : AreWithin slots old) (within : n < length slots) (is : s ≡ get_or slots n s)
    (none : next (drop (n + 1) slots) (drop (n + 1) old) ≡ None) where
  here : n < length old
  here = let h = long_as slots old w in omega (arith, h, within)

  slots_here : drop n slots ≡ s ∷ drop (n + 1) slots
  slots_here = drop_more slots n s within ∙ ap (λ x. x ∷ drop (n + 1) slots) (sym is)

  old_here : drop n old ≡ get_or old n 0 ∷ drop (n + 1) old
  old_here = drop_more old n 0 here

  next_here : next (drop n slots) (drop n old) ≡ next_by s (get_or old n 0) (drop (n + 1) slots) None
  next_here = (λ i. next (slots_here i) (old_here i)) ∙ ap (next_by s (get_or old n 0) (drop (n + 1) slots)) none

  set_here : (v : ℕ) → set (take (n + 1) old ++ firsts (drop (n + 1) slots)) n v ≡ take n old ++ v ∷ firsts (drop (n + 1) slots)
  set_here v =
      let e : suc n ≡ n + 1 = omega arith in
      subst (λ m. set (take m old ++ firsts (drop (n + 1) slots)) n v ≡ take n old ++ v ∷ firsts (drop (n + 1) slots)) e
      (set_front n old (firsts (drop (n + 1) slots)) v here)

  more_test : (b : Bool) (x : List ℕ) → b ≡ true → cond b (Some x) None ≡ Some x
  more_test b x e = ap (λ c. cond c (Some x) None) e

  last_test : (b : Bool) (x : List ℕ) → b ≡ false → cond b (Some x) None ≡ None
  last_test b x e = ap (λ c. cond c (Some x) None) e

  pub moved_on : get_or old n 0 + 1 < length s.alternatives → are_each_slots slots ≡ true
      → (next slots old ≡ Some (set (take (n + 1) old ++ firsts (drop (n + 1) slots)) n (get_or old n 0 + 1)))
      × AreWithin slots (set (take (n + 1) old ++ firsts (drop (n + 1) slots)) n (get_or old n 0 + 1))
  moved_on less lawful =
      let p = get_or old n 0 in
      let test : nat_lt (p + 1) (length s.alternatives) ≡ true = search (rules, less) in
      let e : suc n ≡ n + 1 = omega arith in
      let long : p + 1 < length (get_or slots n s).alternatives = subst (λ x. p + 1 < length x.alternatives) is less in (
        next_behind n slots old ((p + 1) ∷ firsts (drop (n + 1) slots)) w (next_here ∙ more_test _ _ test) ∙ ap Some (sym (set_here (p + 1))),
        subst (AreWithin slots) (sym (set_here (p + 1)))
            (subst (λ m. AreWithin slots (take n old ++ (p + 1) ∷ firsts (drop m slots))) e (within_changed n slots old s (p + 1) w here long lawful)),
      )

  pub went_back : length s.alternatives ≤ get_or old n 0 + 1
      → (set (take (n + 1) old ++ firsts (drop (n + 1) slots)) n 0 ≡ take n old ++ firsts (drop n slots))
      × ((next (drop n slots) (drop n old) ≡ None) × (n ≤ length slots))
  went_back le =
      let test : nat_lt (get_or old n 0 + 1) (length s.alternatives) ≡ false = search (rules, le) in (
        set_here 0 ∙ ap (λ l. take n old ++ firsts l) (sym slots_here),
        (next_here ∙ last_test _ _ test, omega (arith, within)),
      )

-- the same in the words of a loop that goes down: the place is one below, and the row is as it stands there
module _ (slots : List Slot) (old places : List ℕ) (at : ℕ) (s : Slot) (count : ℕ) (w : AreWithin slots old) (some : 0 < at) (within : at ≤ length slots)
    (is : s ≡ get_or slots (at - 1) s) (none : next (drop at slots) (drop at old) ≡ None) (row : places ≡ take at old ++ firsts (drop at slots))
    (long : count ≡ length s.alternatives) where
  one_less : at ≡ (at - 1) + 1
  one_less = omega (arith, some)

  none_there : next (drop ((at - 1) + 1) slots) (drop ((at - 1) + 1) old) ≡ None
  none_there = subst (λ m. next (drop m slots) (drop m old) ≡ None) one_less none

  row_there : places ≡ take ((at - 1) + 1) old ++ firsts (drop ((at - 1) + 1) slots)
  row_there = subst (λ m. places ≡ take m old ++ firsts (drop m slots)) one_less row

  pub place_here : get_or places (at - 1) 0 ≡ get_or old (at - 1) 0
  place_here =
      let h = long_as slots old w in
      ap (λ l. get_or l (at - 1) 0) row ∙ front_same (at - 1) at old (firsts (drop at slots)) (omega (arith, some)) (omega (arith, h, within))

  pub place_below : get_or places (at - 1) 0 < count
  place_below =
      let h = long_as slots old w in
      let low = within_at (at - 1) slots old s w (omega (arith, h, some, within)) in
      let same : length (get_or slots (at - 1) s).alternatives ≡ count = ap (λ x. length x.alternatives) (sym is) ∙ sym long in
      let p = place_here in
      omega (arith, low, same, p)

  pub moved_at : get_or places (at - 1) 0 + 1 < count → are_each_slots slots ≡ true
      → (next slots old ≡ Some (set places (at - 1) (get_or places (at - 1) 0 + 1))) × AreWithin slots (set places (at - 1) (get_or places (at - 1) 0 + 1))
  moved_at less lawful =
      let p = place_here in
      let m = moved_on slots old (at - 1) s w (omega (arith, some, within)) is none_there (omega (arith, less, p, long)) lawful in
      let same : set (take ((at - 1) + 1) old ++ firsts (drop ((at - 1) + 1) slots)) (at - 1) (get_or old (at - 1) 0 + 1) ≡ set places (at - 1) (get_or places (at - 1) 0 + 1) =
      (λ i. set (sym row_there i) (at - 1) (sym p i + 1)) in
      (m.0 ∙ ap Some same, subst (AreWithin slots) same m.1)

  pub back_at : count ≤ get_or places (at - 1) 0 + 1
      → (set places (at - 1) 0 ≡ take (at - 1) old ++ firsts (drop (at - 1) slots))
      × ((next (drop (at - 1) slots) (drop (at - 1) old) ≡ None) × (at - 1 ≤ length slots))
  back_at le =
      let p = place_here in
      let b = went_back slots old (at - 1) s w (omega (arith, some, within)) is none_there (omega (arith, le, p, long)) in
      (ap (λ l. set l (at - 1) 0) row_there ∙ b.0, b.1)
