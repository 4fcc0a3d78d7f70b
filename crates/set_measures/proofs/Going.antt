-- The schedules of a set are gone through in their order: those of the choices before the present one have been passed.
use Rattle.std.proofs.Common.{◌≡◌, ℕ, suc, ◌<◌, List, [], ◌∷◌, ◌++◌, append_assoc, map, Some, None, Bool, true, false, cond, refl, sym, ap, subst, ◌∙◌, arith, rules}
use Rattle.base.specs.declared.schedule.ScheduleLine.{ScheduleLine}
use Rattle.choices.specs.Places.{AreWithin, firsts, left}
use Rattle.choices.specs.Slots.{Slot, are_each_slots}
use Rattle.choices.specs.Stepping.{MovesOn}
use Rattle.choices.proofs.Order.{fewer_left}
use Rattle.set_measures.specs.Choices.{choices_of, schedule_of}
use Rattle.set_measures.specs.Stepping.{AreConsecutive, Left, first_or}
use Rattle.set_measures.proofs.Chain.{in_order}

-- how many choices are left, with the present one
abbrev pub runs_left : List Slot → (is_more : Bool) → List ℕ → ℕ
runs_left slots is_more places = cond is_more (suc (left slots places)) 0

pub some_first : (xs : List (List ℕ)) (q : List ℕ) → first_or None xs ≡ Some q → (later : List (List ℕ)) × (xs ≡ q ∷ later)
some_first [] q is = absurd cc
some_first (x ∷ xs) q is = let same : x ≡ q = search (rules, is) in (xs, ap (λ y. y ∷ xs) same)

pub no_first : (xs : List (List ℕ)) → first_or None xs ≡ None → xs ≡ []
no_first [] is = refl
no_first (x ∷ xs) is = absurd cc

pub left_first : (slots : List Slot) → are_each_slots slots ≡ true → (places : List ℕ) → places ≡ firsts slots → AreWithin slots places → Left true slots [] places
left_first slots lawful places is within =
    let h = in_order slots lawful in
    let some = some_first (choices_of slots) places (h.0 ∙ ap Some (sym is)) in
    record {
      later = some.0;
      within = within;
      in_order = subst (AreConsecutive slots None) some.1 h.1;
      all = ap (map (schedule_of slots)) some.1;
    }

pub left_next : (slots : List Slot) (is_more : Bool) (passed : List (List ScheduleLine)) (places after : List ℕ) → Left true slots passed places
    → MovesOn is_more slots places after → Left is_more slots (passed ++ schedule_of slots places ∷ []) after
left_next slots true passed places after l m =
    let some = some_first l.later after (sym l.in_order.0 ∙ m.0) in
    record {
      later = some.0;
      within = m.1;
      in_order = subst (AreConsecutive slots None) some.1 l.in_order.1;
      all =
          l.all ∙ ap (λ xs. passed ++ schedule_of slots places ∷ map (schedule_of slots) xs) some.1
          ∙ sym (append_assoc passed (schedule_of slots places ∷ []) (map (schedule_of slots) (after ∷ some.0)));
    }
left_next slots false passed places after l m =
    let none = no_first l.later (sym l.in_order.0 ∙ m.0) in
    l.all ∙ ap (λ xs. passed ++ schedule_of slots places ∷ map (schedule_of slots) xs) none

pub fewer_runs : (slots : List Slot) → are_each_slots slots ≡ true → (is_more : Bool) (places after : List ℕ) → MovesOn is_more slots places after
    → runs_left slots is_more after < runs_left slots true places
fewer_runs slots lawful true places after m = let less = fewer_left slots places after lawful m.0 in omega (arith, less)
fewer_runs slots lawful false places after m = omega arith
