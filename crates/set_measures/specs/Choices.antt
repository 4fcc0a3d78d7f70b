-- All schedules of a set, one after the other.
use Rattle.std.specs.Prelude.{ℕ, zero, suc, List, [], ◌∷◌, ◌++◌, length, map}
use Rattle.base.specs.declared.schedule.ScheduleLine.{ScheduleLine}
use Rattle.choices.specs.Places.{taken}
use Rattle.choices.specs.Slots.{Slot, lines_of}

-- what a function gives of each number below n, in the order of the numbers
abbrev pub each_below : {X : Type 0} → ℕ → (ℕ → List X) → List X
each_below zero f = []
each_below (suc n) f = each_below n f ++ f n

-- Each choice once, by the places of its alternatives, in the order of alternatives, where the first slot counts most: with the first alternative of that
-- slot all choices of the others, then with its second one, and so on.
abbrev pub choices_of : List Slot → List (List ℕ)
choices_of [] = [] ∷ []
choices_of (s ∷ slots) = each_below (length s.alternatives) (λ p. map (λ places. p ∷ places) (choices_of slots))

abbrev pub schedule_of : List Slot → List ℕ → List ScheduleLine
schedule_of slots places = lines_of slots (taken slots places)

abbrev pub schedules_of : List Slot → List (List ScheduleLine)
schedules_of slots = map (schedule_of slots) (choices_of slots)
