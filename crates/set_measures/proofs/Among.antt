-- The schedules that are gone through are those of the set.
use Rattle.std.proofs.Common.{◌≡◌, ◌⊎◌, ℕ, zero, suc, ◌+◌, ◌*◌, ◌<◌, List, [], ◌∷◌, ◌++◌, length, length-append, map, inl, inr, ⊎_elim, refl, sym, ap, subst, ◌∙◌, arith, rules}
use Rattle.std.proofs.lemmas.Bool.Decides.{eqb_tells}
use Rattle.std.proofs.lemmas.List.{length-map}
use Rattle.base.specs.declared.schedule.ScheduleLine.{ScheduleLine}
use Rattle.choices.specs.Places.{AreWithin, taken}
use Rattle.choices.specs.Slots.{IsInSet, Slot, lines_of, number_of}
use Rattle.choices.proofs.Order.{choice_has_places, taken_is_choice}
use Rattle.set_measures.specs.AllSchedules.{AreAllSchedules, IsInList}
use Rattle.set_measures.specs.Choices.{choices_of, each_below, schedule_of, schedules_of}

module _ {X : Type 0} where
  among_left : (xs ys : List X) (z : X) → IsInList z xs → IsInList z (xs ++ ys)
  among_left [] ys z h = absurd h
  among_left (x ∷ xs) ys z h = ⊎_elim (λ e. inl e) (λ r. inr (among_left xs ys z r)) h

  among_right : (xs ys : List X) (z : X) → IsInList z ys → IsInList z (xs ++ ys)
  among_right [] ys z h = h
  among_right (x ∷ xs) ys z h = inr (among_right xs ys z h)

  among_either : (xs ys : List X) (z : X) → IsInList z (xs ++ ys) → IsInList z xs ⊎ IsInList z ys
  among_either [] ys z h = inr h
  among_either (x ∷ xs) ys z h = ⊎_elim (λ e. inl (inl e)) (λ r. ⊎_elim (λ a. inl (inr a)) (λ b. inr b) (among_either xs ys z r)) h

  among_below : (n : ℕ) (f : ℕ → List X) (p : ℕ) (z : X) → p < n → IsInList z (f p) → IsInList z (each_below n f)
  among_below zero f p z less h = absurd (omega (arith, less))
  among_below (suc n) f p z less h =
      ⊎_elim (λ e. among_right (each_below n f) (f n) z (subst (λ q. IsInList z (f q)) e.1 h))
      (λ e. let other = e.1 in among_left (each_below n f) (f n) z (among_below n f p z (omega (arith, less, other)) h)) (eqb_tells p n)

  below_among : (n : ℕ) (f : ℕ → List X) (z : X) → IsInList z (each_below n f) → (p : ℕ) × (p < n) × IsInList z (f p)
  below_among zero f z h = absurd h
  below_among (suc n) f z h =
      ⊎_elim (λ a. let u = below_among n f z a in let less = u.1 in (u.0, omega (arith, less), u.2)) (λ b. (n, omega arith, b))
      (among_either (each_below n f) (f n) z h)

  count_below : (n : ℕ) (f : ℕ → List X) (m : ℕ) → ((p : ℕ) → length (f p) ≡ m) → length (each_below n f) ≡ n * m
  count_below zero f m h = search (rules, arith)
  count_below (suc n) f m h =
      let before = count_below n f m h in
      let last = h n in
      length-append (each_below n f) (f n) ∙ grind (arith, before, last)

module _ {X Y : Type 0} (f : X → Y) where
  mapped : (xs : List X) (x : X) → IsInList x xs → IsInList (f x) (map f xs)
  mapped [] x h = absurd h
  mapped (y ∷ xs) x h = ⊎_elim (λ e. inl (ap f e)) (λ r. inr (mapped xs x r)) h

  unmapped : (xs : List X) (y : Y) → IsInList y (map f xs) → (x : X) × IsInList x xs × (y ≡ f x)
  unmapped [] y h = absurd h
  unmapped (x ∷ xs) y h = ⊎_elim (λ e. (x, inl refl, e)) (λ r. let u = unmapped xs y r in (u.0, inr u.1, u.2)) h

places_among : (slots : List Slot) (places : List ℕ) → AreWithin slots places → IsInList places (choices_of slots)
places_among [] [] w = inl refl
places_among [] (p ∷ places) w = absurd w
places_among (s ∷ slots) [] w = absurd w
places_among (s ∷ slots) (p ∷ places) w =
    among_below (length s.alternatives) (λ q. map (λ ps. q ∷ ps) (choices_of slots)) p (p ∷ places) w.0
    (mapped (λ ps. p ∷ ps) (choices_of slots) places (places_among slots places w.1))

places_within : (slots : List Slot) (places : List ℕ) → IsInList places (choices_of slots) → AreWithin slots places
places_within [] places h = ⊎_elim (λ e. subst (AreWithin []) (sym e) tt) (λ r. absurd r) h
places_within (s ∷ slots) places h =
    let u = below_among (length s.alternatives) (λ q. map (λ ps. q ∷ ps) (choices_of slots)) places h in
    let v = unmapped (λ ps. u.0 ∷ ps) (choices_of slots) places u.2 in
    subst (AreWithin (s ∷ slots)) (sym v.2) (u.1, places_within slots v.0 v.1)

count_of_choices : (slots : List Slot) → length (choices_of slots) ≡ number_of slots
count_of_choices [] = refl
count_of_choices (s ∷ slots) =
    count_below (length s.alternatives) (λ p. map (λ places. p ∷ places) (choices_of slots)) (number_of slots)
    (λ p. length-map (choices_of slots) (λ places. p ∷ places) ∙ count_of_choices slots)

all_of_set : (slots : List Slot) (schedule : List ScheduleLine) → IsInSet slots schedule → IsInList schedule (schedules_of slots)
all_of_set slots schedule h =
    let u = choice_has_places slots h.0 h.1 in
    subst (λ s. IsInList s (schedules_of slots)) (sym (h.2 ∙ sym (ap (lines_of slots) u.2)))
    (mapped (schedule_of slots) (choices_of slots) u.0 (places_among slots u.0 u.1))

none_besides : (slots : List Slot) (schedule : List ScheduleLine) → IsInList schedule (schedules_of slots) → IsInSet slots schedule
none_besides slots schedule h =
    let u = unmapped (schedule_of slots) (choices_of slots) schedule h in
    (taken slots u.0, taken_is_choice slots u.0 (places_within slots u.0 u.1), u.2)

pub all_schedules : AreAllSchedules
all_schedules = record {
  all = all_of_set;
  no_more = none_besides;
  count = λ slots. length-map (choices_of slots) (schedule_of slots) ∙ count_of_choices slots;
}
