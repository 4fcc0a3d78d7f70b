-- What a search answers of the code of an image: of one schedule, and of all of a part of a set.
use Rattle.std.specs.Prelude.{◌≡◌, ◌⊎◌, ℕ, ◌+◌, ℤ, ◌<ℤ◌, ◌≤ℤ◌, List, Some, None, true}
use Rattle.base.specs.declared.schedule.ScheduleLine.{ScheduleLine}
use Rattle.choices.specs.Parts.{IsInPart, is_of_part}
use Rattle.choices.specs.Places.{AreWithin, IsBefore, taken}
use Rattle.choices.specs.Slots.{Slot, lines_of}
use Rattle.choices.specs.declared.part.Part.{Part}
use Rattle.image.specs.Code.{code}
use Rattle.image.specs.Sections.{Sections}
use Rattle.kernel.specs.State.{Kernel, Outcome}
use Rattle.searching.specs.Sights.{IsWanted, ShowsSight, Sighting, sight_of}
use Rattle.searching.specs.declared.one.Answer.{Answer}
use Rattle.searching.specs.declared.one.Answer.TheVariants as answers
use Rattle.searching.specs.declared.sight.Wanted.{Wanted}
use Rattle.searching.specs.declared.whole.Searched.{Searched}
use Rattle.searching.specs.declared.whole.Searched.TheVariants as searched

-- a run, by its kernels after each number of steps, comes to this
pub record ComesTo (until : ℤ) (sight : Sighting) (kernel : ℕ → Kernel) : Type 0 where
  pub steps : ℕ
  pub shows : ShowsSight until sight (kernel steps)

-- it never comes to what is wanted
abbrev pub NeverComes : (until : ℤ) → Wanted → (kernel : ℕ → Kernel) → Type 0
NeverComes until wanted kernel = (sight : Sighting) → IsWanted wanted sight → ComesTo until sight kernel → ⊥

-- and that is no run which stands still: it comes to an outcome, or its clock passes the end of the search
pub record IsFollowedOn (until : ℤ) (kernel : ℕ → Kernel) : Type 0 where
  pub steps : ℕ
  pub over : (until <ℤ (kernel steps).now) ⊎ ((o : Outcome) × ((kernel steps).outcome ≡ Some o))

-- more steps than the limit are taken at one time: so many of them lead to the same time, and there is no outcome yet
pub record TakesMore (until : ℤ) (limit : ℕ) (time : ℤ) (kernel : ℕ → Kernel) : Type 0 where
  pub steps : ℕ
  pub before : (kernel steps).now ≡ time
  pub after : (kernel (steps + limit)).now ≡ time
  pub goes_on : (kernel (steps + limit)).outcome ≡ None
  pub within : time ≤ℤ until

abbrev pub kernels : Sections → List ScheduleLine → ℕ → Kernel
kernels i schedule n = (code i schedule n).kernel

-- of one schedule
abbrev pub AnswersRun : Sections → List ScheduleLine → (until : ℤ) → (limit : ℕ) → Wanted → Answer → Type 0
AnswersRun i schedule until limit wanted (answers.Found finding) =
    IsWanted wanted (sight_of i finding) × ComesTo until (sight_of i finding) (kernels i schedule)
AnswersRun i schedule until limit wanted answers.Nothing = NeverComes until wanted (kernels i schedule) × IsFollowedOn until (kernels i schedule)
AnswersRun i schedule until limit wanted (answers.TooLong time) = TakesMore until limit time (kernels i schedule)

-- of all schedules of a part of a set
abbrev pub Searches : Sections → List Slot → Part → (until : ℤ) → (limit : ℕ) → Wanted → Searched → Type 0
Searches i slots part until limit wanted (searched.Found schedule finding) =
    IsInPart part slots schedule × AnswersRun i schedule until limit wanted (answers.Found finding)
Searches i slots part until limit wanted (searched.Nothing worlds) =
    (schedule : List ScheduleLine) → IsInPart part slots schedule → AnswersRun i schedule until limit wanted answers.Nothing
Searches i slots part until limit wanted (searched.TooLong schedule time) =
    IsInPart part slots schedule × AnswersRun i schedule until limit wanted (answers.TooLong time)

-- the schedule of a choice of the part, and under those of all its choices before this one, in the order of alternatives, nothing is found
pub record IsFirstFound (i : Sections) (slots : List Slot) (part : Part) (until : ℤ) (limit : ℕ) (wanted : Wanted) (schedule : List ScheduleLine) : Type 0 where
  pub places : List ℕ
  pub within : AreWithin slots places
  pub is_of : is_of_part part slots places ≡ true
  pub is : schedule ≡ lines_of slots (taken slots places)
  pub before : (others : List ℕ) → AreWithin slots others → is_of_part part slots others ≡ true → IsBefore others places
      → AnswersRun i (lines_of slots (taken slots others)) until limit wanted answers.Nothing

-- what is found is found under the first schedule of the part under which anything is
abbrev pub FindsFirst : Sections → List Slot → Part → (until : ℤ) → (limit : ℕ) → Wanted → Searched → Type 0
FindsFirst i slots part until limit wanted (searched.Found schedule finding) = IsFirstFound i slots part until limit wanted schedule
FindsFirst i slots part until limit wanted (searched.Nothing worlds) = Unit {0}
FindsFirst i slots part until limit wanted (searched.TooLong schedule time) = IsFirstFound i slots part until limit wanted schedule
