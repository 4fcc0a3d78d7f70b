-- What is known of one run, and of the schedules that are left; nobody has to believe this.
use Rattle.std.specs.Prelude.{◌≡◌, ℕ, List, [], ◌∷◌, ◌++◌, Option, Some, None, Bool, true, false, map}
use Rattle.base.specs.declared.schedule.ScheduleLine.{ScheduleLine}
use Rattle.choices.specs.Places.{AreWithin, next}
use Rattle.choices.specs.Slots.{Slot}
use Rattle.image.specs.Sections.{Sections}
use Rattle.measuring.specs.Runs.{calls, instants, stories, usages}
use Rattle.measuring.specs.Tables.{AreMeasured}
use Rattle.measuring.specs.declared.counting.Measures.{Measures}
use Rattle.set_measures.specs.Choices.{schedule_of, schedules_of}
use Rattle.set_measures.specs.Runs.{Run}
use Rattle.set_measures.specs.declared.extreme.Row.{Row}
use Rattle.set_measures.specs.declared.measure.Measure.{Measure}

-- this is measured of a run
abbrev pub IsMeasuredRun : Sections → Run → Measures → Type 0
IsMeasuredRun i r m =
    let n = r.bound.steps in
    AreMeasured m (stories i r.schedule n) (calls i r.schedule n) (usages i r.schedule n) (instants i r.schedule n)

-- the row of a measure before all runs
abbrev pub new_row : Measure → Row
new_row measure = record { measure = measure; extreme = None }

-- the first of them, or this where there is none
abbrev pub first_or : Option (List ℕ) → List (List ℕ) → Option (List ℕ)
first_or end [] = end
first_or end (places ∷ later) = Some places

-- each of these choices is followed by the next one in the order of alternatives, and the last one by this
abbrev pub AreConsecutive : List Slot → (end : Option (List ℕ)) → List (List ℕ) → Type 0
AreConsecutive slots end [] = Unit {0}
AreConsecutive slots end (places ∷ later) = (next slots places ≡ first_or end later) × AreConsecutive slots end later

-- the schedules of a set are these, and then those of this choice and of later ones
pub record AreLeft (slots : List Slot) (passed : List (List ScheduleLine)) (places : List ℕ) : Type 0 where
  pub later : List (List ℕ)
  pub within : AreWithin slots places
  pub in_order : AreConsecutive slots None (places ∷ later)
  pub all : schedules_of slots ≡ passed ++ map (schedule_of slots) (places ∷ later)

-- there is this choice still, or none
abbrev pub Left : Bool → List Slot → (passed : List (List ScheduleLine)) → (places : List ℕ) → Type 0
Left true slots passed places = AreLeft slots passed places
Left false slots passed places = schedules_of slots ≡ passed
