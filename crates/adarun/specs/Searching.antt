-- What the search of a source through the schedules of a part of a set answers (docs/FORMATS.md, "Search"), in terms of the source's meaning.
use Rattle.std.specs.Prelude.{◌≡◌, ℕ, ℤ, List, Option}
use Rattle.std.specs.Io.KnownBytes.{Appends}
use Rattle.compiler.specs.ada_tree.specs.ProgramTree.{ProgramTree}
use Rattle.compiler.specs.meaning.specs.SameMeaning.{SameMeaning}
use Rattle.compiler.specs.meaning.specs.Source.{source, source_names}
use Rattle.base.specs.declared.schedule.ScheduleLine.{ScheduleLine}
use Rattle.choices.specs.Faults.{RefusesChoicesText}
use Rattle.choices.specs.Parts.{IsInPart}
use Rattle.choices.specs.Sets.{IsChoicesText}
use Rattle.choices.specs.Slots.{Slot}
use Rattle.choices.specs.declared.part.Part.{Part}
use Rattle.image.specs.Sections.{Sections}
use Rattle.kernel.specs.State.{Kernel}
use Rattle.machine.specs.Written.{AppendsBeginning}
use Rattle.searching.specs.Reports.{found_text, nothing_text, too_long_text}
use Rattle.searching.specs.Searches.{ComesTo, IsFollowedOn, NeverComes, TakesMore, kernels}
use Rattle.searching.specs.Sights.{IsWanted, Sighting, Stopped, Waiting, Written}
use Rattle.searching.specs.declared.sight.Finding.{Finding}
use Rattle.searching.specs.declared.sight.Finding.TheVariants as findings
use Rattle.searching.specs.declared.sight.Wanted.{Wanted}
use Rattle.searching.specs.declared.whole.Searched.{Searched}
use Rattle.searching.specs.declared.whole.Searched.TheVariants as searched
use Rattle.adarun.specs.Accepted.{IsAccepted, RefusesText}
use Rattle.adarun.specs.Stopping.{HasImage}
use Rattle.adarun.specs.declared.exploring.SearchFault.{SearchFault}
use Rattle.adarun.specs.declared.exploring.SearchFault.TheVariants as faults
use Rattle.adarun.specs.declared.exploring.SearchOutcome.{SearchOutcome}
use Rattle.adarun.specs.declared.exploring.SearchOutcome.TheVariants as outcomes

-- the kernels of a source's run, after each number of steps
abbrev pub source_kernels : ProgramTree → List ScheduleLine → ℕ → Kernel
source_kernels tree schedule steps = (source tree schedule steps).kernel

-- an accepted text, and the slots of a set of schedules
pub record IsSearched (text input : List ℕ) (until : ℤ) : Type 0 where
  pub tree : ProgramTree
  pub accepted : IsAccepted tree text
  pub slots : List Slot
  pub are_slots : IsChoicesText until input slots

-- under this schedule of the part the source comes to this, which is wanted, not later than the end of the search
pub record FindsSchedule (text input : List ℕ) (part : Part) (until : ℤ) (wanted : Wanted) (schedule : List ScheduleLine) (sight : Sighting) : Type 0 where
  pub searched : IsSearched text input until
  pub in_set : IsInPart part searched.slots schedule
  pub wants : IsWanted wanted sight
  pub comes : ComesTo until sight (source_kernels searched.tree schedule)

-- Under no schedule of the part does the source come to what is wanted up to the end of the search; and under each it comes to an outcome, or its clock passes
-- the end.
pub record FindsNothing (text input : List ℕ) (part : Part) (until : ℤ) (wanted : Wanted) : Type 0 where
  pub searched : IsSearched text input until
  pub never : (schedule : List ScheduleLine) → IsInPart part searched.slots schedule → NeverComes until wanted (source_kernels searched.tree schedule)
  pub followed : (schedule : List ScheduleLine) → IsInPart part searched.slots schedule → IsFollowedOn until (source_kernels searched.tree schedule)

-- under this schedule of the part the code of an image that means the same takes more steps than the limit at this time
pub record FindsTooLong (text input : List ℕ) (part : Part) (until : ℤ) (limit : ℕ) (schedule : List ScheduleLine) (time : ℤ) : Type 0 where
  pub searched : IsSearched text input until
  pub in_set : IsInPart part searched.slots schedule
  pub image : Sections
  pub means : SameMeaning searched.tree image
  pub long : TakesMore until limit time (kernels image schedule)

-- ---- what is written

abbrev pub outcome_of : Sighting → SearchOutcome
outcome_of (Stopped x t time) = outcomes.Unhandled
outcome_of (Waiting time) = outcomes.WaitsForever
outcome_of (Written line) = outcomes.Line

abbrev pub outcome_found : Finding → SearchOutcome
outcome_found (findings.Unhandled x t time) = outcomes.Unhandled
outcome_found (findings.WaitsForever time) = outcomes.WaitsForever
outcome_found (findings.Line line) = outcomes.Line

-- by what the machine has found
abbrev pub outcome_by : Searched → SearchOutcome
outcome_by (searched.Found schedule finding) = outcome_found finding
outcome_by (searched.Nothing worlds) = outcomes.Nothing
outcome_by (searched.TooLong schedule time) = outcomes.TooLong

-- the schedule that was found, and what the source comes to under it
pub record IsFoundReport (text input : List ℕ) (part : Part) (until : ℤ) (wanted : Wanted) (outcome : SearchOutcome) (report : List ℕ) : Type 0 where
  pub schedule : List ScheduleLine
  pub sight : Sighting
  pub finds : FindsSchedule text input part until wanted schedule sight
  pub outcome_is : outcome ≡ outcome_of sight
  pub report_is : report ≡ found_text (source_names finds.searched.tree) schedule sight

-- there is nothing; how many worlds were kept to find this is of no meaning for the source
pub record IsNothingReport (text input : List ℕ) (part : Part) (until : ℤ) (wanted : Wanted) (report : List ℕ) : Type 0 where
  pub finds : FindsNothing text input part until wanted
  pub worlds : ℕ
  pub report_is : report ≡ nothing_text part finds.searched.slots worlds

pub record IsTooLongReport (text input : List ℕ) (part : Part) (until : ℤ) (limit : ℕ) (report : List ℕ) : Type 0 where
  pub schedule : List ScheduleLine
  pub time : ℤ
  pub finds : FindsTooLong text input part until limit schedule time
  pub report_is : report ≡ too_long_text limit schedule time

-- the text of an answer of the search, which is true
abbrev pub IsReport : (text input : List ℕ) → Part → (until : ℤ) → (limit : ℕ) → Wanted → SearchOutcome → (report : List ℕ) → Type 0
IsReport text input part until limit wanted outcomes.Nothing report = IsNothingReport text input part until wanted report
IsReport text input part until limit wanted outcomes.TooLong report = IsTooLongReport text input part until limit report
IsReport text input part until limit wanted outcome report = IsFoundReport text input part until wanted outcome report

-- the answer was written
pub record WritesReport (text input : List ℕ) (part : Part) (until : ℤ) (limit : ℕ) (wanted : Wanted) (outcome : SearchOutcome)
    (old new : Option (List ℕ)) : Type 0 where
  pub report : List ℕ
  pub is_report : IsReport text input part until limit wanted outcome report
  pub appends : Appends old new report

-- a beginning of the answer was written
pub record BeginsReport (text input : List ℕ) (part : Part) (until : ℤ) (limit : ℕ) (wanted : Wanted) (old new : Option (List ℕ)) : Type 0 where
  pub outcome : SearchOutcome
  pub report : List ℕ
  pub is_report : IsReport text input part until limit wanted outcome report
  pub begins : AppendsBeginning old new report

-- ---- why there is no answer

-- the input is a set of schedules
pub record HasSlots (until : ℤ) (input : List ℕ) : Type 0 where
  pub slots : List Slot
  pub are_slots : IsChoicesText until input slots

-- the fault is that of the first call that refused: the source is refused; it compiles, and the set is refused; or both were read, and the search stopped
abbrev pub RefusesSearching : (source input : List ℕ) → (until : ℤ) → SearchFault → Type 0
RefusesSearching source input until (faults.Source fault) = RefusesText source fault
RefusesSearching source input until (faults.Choices fault) = HasImage source × RefusesChoicesText until input fault
RefusesSearching source input until (faults.Run fault) = HasImage source × HasSlots until input
