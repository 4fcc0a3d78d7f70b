-- That what a search finds is found under the first schedule of the part of the set, in the order of the alternatives (docs/FORMATS.md, "Search"), in terms of
-- the source's meaning.
use Rattle.std.specs.Prelude.{◌≡◌, ℕ, ℤ, List, Option, true}
use Rattle.std.specs.Io.KnownBytes.{Appends}
use Rattle.base.specs.declared.schedule.ScheduleLine.{ScheduleLine}
use Rattle.choices.specs.Parts.{is_of_part}
use Rattle.choices.specs.Places.{AreWithin, IsBefore, taken}
use Rattle.choices.specs.Slots.{Slot, lines_of}
use Rattle.choices.specs.declared.part.Part.{Part}
use Rattle.compiler.specs.ada_tree.specs.ProgramTree.{ProgramTree}
use Rattle.compiler.specs.meaning.specs.Source.{source_names}
use Rattle.searching.specs.Reports.{found_text, too_long_text}
use Rattle.searching.specs.Searches.{IsFollowedOn, NeverComes}
use Rattle.searching.specs.Sights.{Sighting}
use Rattle.searching.specs.declared.sight.Wanted.{Wanted}
use Rattle.adarun.specs.Searching.{IsSearched, source_kernels}
use Rattle.adarun.specs.declared.exploring.SearchOutcome.{SearchOutcome}
use Rattle.adarun.specs.declared.exploring.SearchOutcome.TheVariants as outcomes

-- Under no choice of the part that is before this one does the source come to what is wanted up to the end of the search; and under each of them it comes to an
-- outcome, or its clock passes the end.
pub record IsFirstSchedule (tree : ProgramTree) (slots : List Slot) (part : Part) (until : ℤ) (wanted : Wanted) (schedule : List ScheduleLine) : Type 0 where
  pub places : List ℕ
  pub within : AreWithin slots places
  pub is_of : is_of_part part slots places ≡ true
  pub is : schedule ≡ lines_of slots (taken slots places)
  pub never : (others : List ℕ) → AreWithin slots others → is_of_part part slots others ≡ true → IsBefore others places
      → NeverComes until wanted (source_kernels tree (lines_of slots (taken slots others)))
  pub followed : (others : List ℕ) → AreWithin slots others → is_of_part part slots others ≡ true → IsBefore others places
      → IsFollowedOn until (source_kernels tree (lines_of slots (taken slots others)))

-- the report of what is found under this schedule
pub record IsFirstFoundReport (text input : List ℕ) (part : Part) (until : ℤ) (wanted : Wanted) (report : List ℕ) : Type 0 where
  pub searched : IsSearched text input until
  pub schedule : List ScheduleLine
  pub first : IsFirstSchedule searched.tree searched.slots part until wanted schedule
  pub sight : Sighting
  pub report_is : report ≡ found_text (source_names searched.tree) schedule sight

-- or of more steps than the limit at one time
pub record IsFirstTooLongReport (text input : List ℕ) (part : Part) (until : ℤ) (limit : ℕ) (wanted : Wanted) (report : List ℕ) : Type 0 where
  pub searched : IsSearched text input until
  pub schedule : List ScheduleLine
  pub first : IsFirstSchedule searched.tree searched.slots part until wanted schedule
  pub time : ℤ
  pub report_is : report ≡ too_long_text limit schedule time

abbrev pub ReportsFirst : (text input : List ℕ) → Part → (until : ℤ) → (limit : ℕ) → Wanted → SearchOutcome → (report : List ℕ) → Type 0
ReportsFirst text input part until limit wanted outcomes.Nothing report = Unit {0}
ReportsFirst text input part until limit wanted outcomes.TooLong report = IsFirstTooLongReport text input part until limit wanted report
ReportsFirst text input part until limit wanted outcome report = IsFirstFoundReport text input part until wanted report

-- the answer that was written is that of the first schedule under which there is one
pub record WritesFirst (text input : List ℕ) (part : Part) (until : ℤ) (limit : ℕ) (wanted : Wanted) (outcome : SearchOutcome)
    (old new : Option (List ℕ)) : Type 0 where
  pub report : List ℕ
  pub first : ReportsFirst text input part until limit wanted outcome report
  pub appends : Appends old new report
