-- What a run of a source text writes up to a time, which its clock doesn't pass.
use Rattle.std.specs.Prelude.{◌≡◌, ◌≤◌, ℕ, suc, ◌+◌, ℤ, pos, ◌<ℤ◌, ◌≤ℤ◌, List, [], ◌∷◌, ◌++◌, Option, Some}
use Rattle.std.specs.Io.KnownBytes.{Appends}
use Rattle.base.specs.declared.schedule.ScheduleLine.{ScheduleLine}
use Rattle.clock.specs.Schedules.{IsScheduleText}
use Rattle.kernel.specs.State.{Line}
use Rattle.kernel.specs.Text.{lines_text}
use Rattle.image.specs.Sections.{Sections}
use Rattle.compiler.specs.ada_tree.specs.ProgramTree.{ProgramTree}
use Rattle.compiler.specs.meaning.specs.Source.{source, source_names}
use Rattle.machine.specs.Bounds.{IsBound, bounded_text, cut_line}
use Rattle.machine.specs.Outcomes.{ending_of, time_of}
use Rattle.machine.specs.Written.{AppendsBeginning}
use Rattle.machine.specs.declared.bound.Bound.{Bound}
use Rattle.machine.specs.declared.bound.Cut.{Cut}
use Rattle.machine.specs.declared.bound.Cut.TheVariants as cuts
use Rattle.machine.specs.declared.reports.Outcome as machine
use Rattle.adarun.specs.Accepted.{Compiles, IsAccepted}
use Rattle.adarun.specs.Progress.{enough_steps}

-- all that the source has written after so many steps, and a last line that says what has cut the run there
abbrev pub cut_text : Cut → ProgramTree → List ScheduleLine → (steps : ℕ) → List ℕ
cut_text cut tree schedule steps =
    let k = (source tree schedule steps).kernel in
    lines_text (source_names tree) k.lines ++ cut_line cut (source_names tree) k.outcome k.now

-- each of these lines is written up to the time
abbrev pub AreUpTo : ℤ → List Line → Type 0
AreUpTo until [] = Unit {0}
AreUpTo until (l ∷ lines) = (l.time ≤ℤ until) × AreUpTo until lines

-- each of these lines is written after the time
abbrev pub AreAfter : ℤ → List Line → Type 0
AreAfter until [] = Unit {0}
AreAfter until (l ∷ lines) = (until <ℤ l.time) × AreAfter until lines

-- The next step of the source leads its clock past the time, and what the source writes beyond these steps it writes after the time.
pub record StopsAtTime (tree : ProgramTree) (schedule : List ScheduleLine) (until : ℤ) (steps : ℕ) : Type 0 where
  pub passes : until <ℤ (source tree schedule (suc steps)).kernel.now
  pub beyond : (more : ℕ) → (lines : List Line)
      × ((source tree schedule (steps + more)).kernel.lines ≡ (source tree schedule steps).kernel.lines ++ lines) × AreAfter until lines

-- by what has cut the run; under a limit that is enough for a number of steps, by the text of the source alone, at least so many were taken
abbrev pub StopsBy : ProgramTree → List ScheduleLine → (until : ℤ) → (limit steps : ℕ) → Cut → Type 0
StopsBy tree schedule until limit steps cuts.Time = StopsAtTime tree schedule until steps
StopsBy tree schedule until limit steps cuts.Steps = (count : ℕ) → enough_steps tree count ≤ limit → count ≤ steps

-- What was written is what the source writes that has taken some number of steps: its lines, and its last line. The outcome is that of this world of the
-- source, at its time, which is not after the time that was given; nor is any of the lines.
pub record WritesUntil (tree : ProgramTree) (schedule : List ScheduleLine) (until : ℤ) (limit : ℕ) (cut : Cut) (outcome : machine.Outcome)
    (old new : Option (List ℕ)) : Type 0 where
  pub steps : ℕ
  pub appends : Appends old new (cut_text cut tree schedule steps)
  pub ends : (source tree schedule steps).kernel.outcome ≡ ending_of outcome
  pub time : (source tree schedule steps).kernel.now ≡ time_of outcome
  pub within : pos 0 ≤ℤ until → (source tree schedule steps).kernel.now ≤ℤ until
  pub lines : pos 0 ≤ℤ until → AreUpTo until (source tree schedule steps).kernel.lines
  pub stops : StopsBy tree schedule until limit steps cut

-- The run of an accepted text up to a time and within a limit, under the schedule that the input is, has written what the text means.
pub record WritesItsMeaningUntil (text input : List ℕ) (until : ℤ) (limit : ℕ) (cut : Cut) (outcome : machine.Outcome)
    (old new : Option (List ℕ)) : Type 0 where
  pub schedule : List ScheduleLine
  pub is_schedule : IsScheduleText input schedule
  pub tree : ProgramTree
  pub accepted : IsAccepted tree text
  pub writes : WritesUntil tree schedule until limit cut outcome old new

-- the run of some image that means the same as the text's tree was begun, and what was written is a beginning of its text up to the time
pub record WritesBeginningUntil (text input : List ℕ) (until : ℤ) (limit : ℕ) (old new : Option (List ℕ)) : Type 0 where
  pub schedule : List ScheduleLine
  pub is_schedule : IsScheduleText input schedule
  pub image : Sections
  pub compiles : Compiles text image
  pub bound : Bound
  pub bounded : IsBound image schedule (Some until) limit bound
  pub begins : AppendsBeginning old new (bounded_text image schedule bound)
