-- What is measured of the runs of an image on all schedules of a set.
use Rattle.std.specs.Prelude.{◌≡◌, ℕ, ℤ, List, All, count_by, length, map}
use Rattle.base.specs.declared.schedule.ScheduleLine.{ScheduleLine}
use Rattle.choices.specs.Slots.{Slot}
use Rattle.image.specs.Sections.{Sections}
use Rattle.set_measures.specs.Choices.{schedules_of}
use Rattle.set_measures.specs.Extremes.{IsExtremeOf, capped}
use Rattle.set_measures.specs.Quantities.{direction_of, measures_of, value_of}
use Rattle.set_measures.specs.Runs.{AreRuns, Run, is_cut}
use Rattle.set_measures.specs.declared.extreme.Row.{Row}
use Rattle.set_measures.specs.declared.set.SetMeasures.{SetMeasures}

-- the row has the extreme of its measure in these runs
abbrev pub HasExtreme : Sections → List Run → Row → Type 0
HasExtreme i runs row = IsExtremeOf (direction_of row.measure) (map (λ r. value_of i r row.measure) runs) row.extreme

-- there is a run on each of these schedules, each measure has a row with its extreme in these runs, and so many runs there are, of which the limit on steps has
-- cut so many
pub record IsMeasuredOn (i : Sections) (schedules : List (List ScheduleLine)) (until : ℤ) (limit : ℕ) (s : SetMeasures) : Type 0 where
  pub runs : List Run
  pub are_runs : AreRuns i schedules until limit runs
  pub measures : map (λ row. row.measure) s.rows.items ≡ measures_of i
  pub extremes : All (HasExtreme i runs) s.rows.items
  pub schedules_are : s.schedules ≡ capped (length runs)
  pub cut_are : s.cut ≡ capped (count_by (is_cut i) runs)

-- on all schedules of a set
abbrev pub IsMeasuredSet : Sections → List Slot → (until : ℤ) → (limit : ℕ) → SetMeasures → Type 0
IsMeasuredSet i slots until limit s = IsMeasuredOn i (schedules_of slots) until limit s
