-- The runs of an image on schedules, each up to a time and with a limit on its steps.
use Rattle.std.specs.Prelude.{◌≡◌, ℕ, ℤ, List, Bool, false, Some, is_none, All, map}
use Rattle.base.specs.declared.schedule.ScheduleLine.{ScheduleLine}
use Rattle.image.specs.Code.{code}
use Rattle.image.specs.Sections.{Sections}
use Rattle.machine.specs.Bounds.{IsBound}
use Rattle.machine.specs.declared.bound.Bound.{Bound}
use Rattle.machine.specs.declared.bound.Cut.{Cut}
use Rattle.machine.specs.declared.bound.Cut.TheVariants.{Steps, Time}

-- a run on this schedule, up to this bound
pub record Run : Type 0 where
  pub schedule : List ScheduleLine
  pub bound : Bound

-- one run on each of these schedules, in their order, as far as its clock doesn't pass a time, and with a limit on its steps
pub record AreRuns (i : Sections) (schedules : List (List ScheduleLine)) (until : ℤ) (limit : ℕ) (runs : List Run) : Type 0 where
  pub schedules_are : map (λ r. r.schedule) runs ≡ schedules
  pub bounds : All (λ r. IsBound i r.schedule (Some until) limit r.bound) runs

-- the limit on steps has cut it: it has come neither to an outcome nor to the time
abbrev pub is_cut_by : Cut → (no_outcome : Bool) → Bool
is_cut_by Steps no_outcome = no_outcome
is_cut_by Time no_outcome = false

abbrev pub is_cut : Sections → Run → Bool
is_cut i r = is_cut_by r.bound.cut (is_none (code i r.schedule r.bound.steps).kernel.outcome)
