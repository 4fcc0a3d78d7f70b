-- The law of the schedules that are gone through.
use Rattle.std.specs.Prelude.{◌≡◌, ◌⊎◌, List, [], ◌∷◌, length}
use Rattle.base.specs.declared.schedule.ScheduleLine.{ScheduleLine}
use Rattle.choices.specs.Slots.{IsInSet, Slot, number_of}
use Rattle.set_measures.specs.Choices.{schedules_of}

abbrev pub IsInList : {X : Type 0} → X → List X → Type 0
IsInList x [] = ⊥
IsInList x (y ∷ ys) = (x ≡ y) ⊎ IsInList x ys

-- they are the schedules of the set and no others, and there is one for each choice
pub record AreAllSchedules : Type 0 where
  pub all : (slots : List Slot) (schedule : List ScheduleLine) → IsInSet slots schedule → IsInList schedule (schedules_of slots)
  pub no_more : (slots : List Slot) (schedule : List ScheduleLine) → IsInList schedule (schedules_of slots) → IsInSet slots schedule
  pub count : (slots : List Slot) → length (schedules_of slots) ≡ number_of slots
