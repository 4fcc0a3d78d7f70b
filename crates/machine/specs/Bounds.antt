-- Up to where a run goes, and its last line where it is cut there (docs/FORMATS.md, "Output").
use Rattle.std.specs.Prelude.{◌≡◌, ◌<◌, ℕ, suc, ℤ, pos, ◌<ℤ◌, ◌≤ℤ◌, List, ◌++◌, Option, Some, None, codes}
use Rattle.std.specs.Fmt.{signed_decimal}
use Rattle.base.specs.declared.schedule.ScheduleLine.{ScheduleLine}
use Rattle.kernel.specs.State.{Outcome}
use Rattle.kernel.specs.Text.{Names, last_line, lines_text}
use Rattle.image.specs.Code.{code}
use Rattle.image.specs.Sections.{Sections}
use Rattle.image.specs.Texts.{names_of}
use Rattle.machine.specs.declared.bound.Bound.{Bound}
use Rattle.machine.specs.declared.bound.Cut.{Cut}
use Rattle.machine.specs.declared.bound.Cut.TheVariants.{Steps, Time}

-- so many steps at most
abbrev pub at_most : ℕ → Bound
at_most steps = record { steps = steps; cut = Steps }

-- A time cuts a run here: its clock hasn't passed that time, and would with the next step.
pub record IsCutByTime (i : Sections) (schedule : List ScheduleLine) (until : ℤ) (limit steps : ℕ) : Type 0 where
  pub earlier : steps < limit
  pub within : pos 0 ≤ℤ until → (code i schedule steps).kernel.now ≤ℤ until
  pub passes : until <ℤ (code i schedule (suc steps)).kernel.now

-- The limit on steps cuts a run here, or it has come to an outcome by then: its clock hasn't passed the time.
pub record IsCutBySteps (i : Sections) (schedule : List ScheduleLine) (until : ℤ) (limit steps : ℕ) : Type 0 where
  pub whole : steps ≡ limit
  pub within : pos 0 ≤ℤ until → (code i schedule steps).kernel.now ≤ℤ until

abbrev pub IsTimeBound : Sections → List ScheduleLine → (until : ℤ) → (limit steps : ℕ) → Cut → Type 0
IsTimeBound i schedule until limit steps Steps = IsCutBySteps i schedule until limit steps
IsTimeBound i schedule until limit steps Time = IsCutByTime i schedule until limit steps

-- by the time that was given, if one was
abbrev pub IsBound : Sections → List ScheduleLine → Option ℤ → (limit : ℕ) → Bound → Type 0
IsBound i schedule None limit bound = bound ≡ at_most limit
IsBound i schedule (Some until) limit bound = IsTimeBound i schedule until limit bound.steps bound.cut

-- the last line of a run: where there is no outcome it says what has cut the run
abbrev pub cut_line : Cut → Names → Option Outcome → ℤ → List ℕ
cut_line Steps names outcome time = last_line names outcome time
cut_line Time names None time = codes "time limit" ++ codes " at " ++ signed_decimal time ++ codes "\n"
cut_line Time names (Some o) time = last_line names (Some o) time

-- what a run within the bound writes
abbrev pub bounded_text : Sections → List ScheduleLine → Bound → List ℕ
bounded_text i schedule bound =
    let k = (code i schedule bound.steps).kernel in
    lines_text (names_of i) k.lines ++ cut_line bound.cut (names_of i) k.outcome k.now
