-- The lines of a choice, slot by slot.
use Rattle.std.proofs.Common.{◌≡◌, ℕ, zero, suc, ◌+◌, ◌<◌, ◌≤◌, ℤ, List, [], ◌∷◌, ◌++◌, length, drop, get_or, Option, Some, refl, sym, ap, subst, ◌∙◌, arith, append_assoc, append-nil, length-append}
use Rattle.std.proofs.lemmas.List.{drop_all, drop_more}
use Rattle.std.proofs.lemmas.Option.{slice_get-get_or}
use Rattle.base.specs.declared.schedule.ScheduleLine.{ScheduleLine}
use Rattle.choices.specs.Slots.{Slot, line_of, lines_of}
use Rattle.choices.specs.Places.{AreWithin, firsts, flat, taken}
use Rattle.choices.proofs.Moving.{long_as, within_at}

module _ (slots : List Slot) (places : List ℕ) (at : ℕ) (s : Slot) (w : AreWithin slots places) (less : at < length slots) (is : s ≡ get_or slots at s) where
  slots_here : drop at slots ≡ s ∷ drop (at + 1) slots
  slots_here = drop_more slots at s less ∙ ap (λ x. x ∷ drop (at + 1) slots) (sym is)

  pub place_less : at < length places
  place_less = let h = long_as slots places w in omega (arith, h, less)

  places_here : drop at places ≡ get_or places at 0 ∷ drop (at + 1) places
  places_here = drop_more places at 0 place_less

  pub place_within : get_or places at 0 < length s.alternatives
  place_within = subst (λ x. get_or places at 0 < length x.alternatives) (sym is) (within_at at slots places s w place_less)

  -- the lines that are left, by the alternative of this slot
  pub lines_here : (a : Option ℤ) → a ≡ get_or s.alternatives (get_or places at 0) a
      → lines_of (drop at slots) (taken (drop at slots) (drop at places)) ≡ line_of s a ++ lines_of (drop (at + 1) slots) (taken (drop (at + 1) slots) (drop (at + 1) places))
  lines_here a e =
      let there = slice_get-get_or s.alternatives (get_or places at 0) a place_within in
      (λ i. lines_of (slots_here i) (taken (slots_here i) (places_here i)))
      ∙ ap (λ o. line_of s (flat o) ++ lines_of (drop (at + 1) slots) (taken (drop (at + 1) slots) (drop (at + 1) places))) (there ∙ ap Some (sym e))

pub lines_done : (slots : List Slot) (choice : List (Option ℤ)) (lines : List ScheduleLine) (at : ℕ) (more : List (Option ℤ)) → length slots ≤ at
    → lines ++ lines_of (drop at slots) more ≡ lines_of slots choice → lines ≡ lines_of slots choice
lines_done slots choice lines at more le e =
    sym (append-nil lines) ∙ ap (λ l. lines ++ lines_of l more) (sym (drop_all at slots le)) ∙ e

-- one slot more is done
pub lines_next : (slots : List Slot) (places : List ℕ) (at : ℕ) (s : Slot) → AreWithin slots places → at < length slots → s ≡ get_or slots at s
    → (a : Option ℤ) → a ≡ get_or s.alternatives (get_or places at 0) a → (lines later : List ScheduleLine) → later ≡ lines ++ line_of s a
    → lines ++ lines_of (drop at slots) (taken (drop at slots) (drop at places)) ≡ lines_of slots (taken slots places)
    → later ++ lines_of (drop (at + 1) slots) (taken (drop (at + 1) slots) (drop (at + 1) places)) ≡ lines_of slots (taken slots places)
lines_next slots places at s w less is a e lines later more so_far =
    ap (λ l. l ++ lines_of (drop (at + 1) slots) (taken (drop (at + 1) slots) (drop (at + 1) places))) more
    ∙ append_assoc lines (line_of s a) (lines_of (drop (at + 1) slots) (taken (drop (at + 1) slots) (drop (at + 1) places)))
    ∙ ap (λ l. lines ++ l) (sym (lines_here slots places at s w less is a e))
    ∙ so_far

-- ---- the first alternatives

drop_firsts : (n : ℕ) (slots : List Slot) → n < length slots → firsts (drop n slots) ≡ 0 ∷ firsts (drop (suc n) slots)
drop_firsts n [] h = absurd (omega (arith, h))
drop_firsts zero (s ∷ slots) h = refl
drop_firsts (suc n) (s ∷ slots) h = drop_firsts n slots (omega (arith, h))

pub firsts_more : (places later : List ℕ) (slots : List Slot) → later ≡ places ++ 0 ∷ [] → length places < length slots
    → places ++ firsts (drop (length places) slots) ≡ firsts slots
    → (later ++ firsts (drop (length later) slots) ≡ firsts slots) × (length later ≤ length slots)
firsts_more places later slots is less so_far =
    let long : length later ≡ suc (length places) = ap length is ∙ (length-append places (0 ∷ []) ∙ omega arith) in (
      (λ i. is i ++ firsts (drop (long i) slots)) ∙ append_assoc places (0 ∷ []) (firsts (drop (suc (length places)) slots))
          ∙ ap (λ l. places ++ l) (sym (drop_firsts (length places) slots less)) ∙ so_far,
      omega (arith, long, less),
    )

pub firsts_done : (places : List ℕ) (slots : List Slot) → length slots ≤ length places → places ++ firsts (drop (length places) slots) ≡ firsts slots → places ≡ firsts slots
firsts_done places slots le so_far =
    sym (append-nil places) ∙ ap (λ l. places ++ firsts l) (sym (drop_all (length places) slots le)) ∙ so_far

pub line_is : (s : Slot) (a : Option ℤ) (v time value : ℤ) (channel : ℕ) → a ≡ Some v → time ≡ s.time → channel ≡ s.channel → value ≡ v
    → record { time = time; channel = channel; value = value } ∷ [] ≡ line_of s a
line_is s a v time value channel is at on same =
    (λ i. record { time = at i; channel = on i; value = same i } ∷ []) ∙ ap (line_of s) (sym is)
