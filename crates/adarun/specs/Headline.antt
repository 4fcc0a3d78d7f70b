-- What a run of a source text writes.
use Rattle.std.specs.Prelude.{◌≡◌, ℕ, ◌≤◌, List, Option, Some}
use Rattle.std.specs.Io.KnownBytes.{Appends}
use Rattle.base.specs.declared.schedule.ScheduleLine.{ScheduleLine}
use Rattle.clock.specs.Schedules.{IsScheduleText}
use Rattle.image_laws.specs.kernel.specs.State.{Outcome}
use Rattle.image.specs.Sections.{Sections}
use Rattle.image.specs.Rules.{IsWellFormed}
use Rattle.image.specs.Code.{code, code_text}
use Rattle.compiler.specs.ada_tree.specs.ProgramTree.{ProgramTree}
use Rattle.compiler.specs.meaning.specs.SameMeaning.{KeepsCount, SameMeaning}
use Rattle.compiler.specs.meaning.specs.Source.{source, source_text}
use Rattle.machine.specs.Outcomes.{ending_of, time_of}
use Rattle.machine.specs.Stands.{EndsBy}
use Rattle.machine.specs.Written.{AppendsBeginning}
use Rattle.machine.specs.declared.reports.Outcome as machine
use Rattle.compiler.specs.expr_code.specs.Coming.{most_steps}
use Rattle.compiler.specs.Compiled.{IsBounded}
use Rattle.adarun.specs.Accepted.{Compiles, IsAccepted}
use Rattle.adarun.specs.Progress.{enough_steps}

-- What was written is what the source writes that has taken some number of steps: its lines, and its last line. The outcome is that of this world of the
-- source, at its time; where it has none the run was cut, and the last line says so. Under a limit that is enough for a number of steps, by the text of the
-- source alone, at least so many were taken.
pub record WritesSource (tree : ProgramTree) (schedule : List ScheduleLine) (limit : ℕ) (outcome : machine.Outcome) (old new : Option (List ℕ)) : Type 0 where
  pub steps : ℕ
  pub appends : Appends old new (source_text tree schedule steps)
  pub ends : (source tree schedule steps).kernel.outcome ≡ ending_of outcome
  pub time : (source tree schedule steps).kernel.now ≡ time_of outcome
  pub comes_far : (count : ℕ) → enough_steps tree count ≤ limit → count ≤ steps

-- The run of an accepted text within a limit, under the schedule that the input is, has written what the text means.
pub record WritesItsMeaning (text input : List ℕ) (limit : ℕ) (outcome : machine.Outcome) (old new : Option (List ℕ)) : Type 0 where
  pub schedule : List ScheduleLine
  pub is_schedule : IsScheduleText input schedule
  pub tree : ProgramTree
  pub accepted : IsAccepted tree text
  pub writes : WritesSource tree schedule limit outcome old new

-- ---- the image that was run

-- wherever the source comes to an outcome, the code comes to it with the same text, and stays there under every greater limit
abbrev pub ComesToTheSame : ProgramTree → List ScheduleLine → Sections → Type 0
ComesToTheSame tree schedule image =
    (steps : ℕ) (o : Outcome)
    → (source tree schedule steps).kernel.outcome ≡ Some o
    → (enough : ℕ) × ((limit : ℕ) → enough ≤ limit → ((code image schedule limit).kernel.outcome ≡ Some o)
    × (code_text image schedule limit ≡ source_text tree schedule steps))

-- A run by its image, for at most `limit` steps of its code: a well-formed image that means the same as the text's tree and keeps the count of steps.
-- What was written is what its code writes within the limit, so under every limit that is large enough the run comes to the outcome that the source has.
pub record Runs (text input : List ℕ) (limit : ℕ) (outcome : machine.Outcome) (old new : Option (List ℕ)) : Type 0 where
  pub schedule : List ScheduleLine
  pub is_schedule : IsScheduleText input schedule
  pub tree : ProgramTree
  pub accepted : IsAccepted tree text
  pub image : Sections
  pub means : SameMeaning tree image
  pub counted : KeepsCount tree image (most_steps image)
  pub bounded : IsBounded tree image
  pub well_formed : IsWellFormed image
  pub appends : Appends old new (code_text image schedule limit)
  pub ends : EndsBy outcome (code image schedule limit)
  pub writes : WritesSource tree schedule limit outcome old new
  pub comes_to : ComesToTheSame tree schedule image

-- the run of some image that means the same as the text's tree was begun, and what was written is a beginning of its text
pub record WritesBeginning (text input : List ℕ) (limit : ℕ) (old new : Option (List ℕ)) : Type 0 where
  pub schedule : List ScheduleLine
  pub is_schedule : IsScheduleText input schedule
  pub image : Sections
  pub compiles : Compiles text image
  pub begins : AppendsBeginning old new (code_text image schedule limit)
