-- What a compiler owes: where each step of a task of the program is met by the code of the image, the image has the program's meaning and keeps the count.
-- A proved term, since a contract cannot speak of all relations between works and frames.
use Rattle.std.proofs.Common.{◌≡◌, ℕ, List, true}
use Rattle.base.specs.Schedule.{is_schedule}
use Rattle.base.specs.declared.schedule.ScheduleLine.{ScheduleLine}
use Rattle.kernel.specs.Laws.{LinesGrow, QuietStays}
use Rattle.image.specs.Sections.{Sections}
use Rattle.image.specs.Frames.{Words, TaskState}
use Rattle.image.specs.Steps as steps
use Rattle.image.specs.Steps.{behaviour}
use Rattle.image.specs.Code.{CodeWorld, start}
use Rattle.ada_tree.specs.ProgramTree.{ProgramTree}
use Rattle.meaning.specs.Meeting.{Relation, Meets, Related}
use Rattle.meaning.specs.Lifting.{steps_of_other, met_paced}
use Rattle.meaning.specs.Works.{TaskWork, Store, GivenToCaller}
use Rattle.meaning.specs.Source.{SourceWorld, source_start, source_behaviour}
use Rattle.meaning.specs.SameMeaning.{frames_of, KeepsCount}

-- `rel` says which words stand for which variables and which frames for which work, under a note that may be chosen anew behind each step that moves;
-- `Ones` and `Others` are invariants of the worlds of the program and of the code
module _ {Note : Type 0} (p : ProgramTree) (i : Sections) (rel : Relation Note Store TaskWork GivenToCaller Words TaskState steps.Given)
    (limit : TaskState → ℕ) (Ones : List ScheduleLine → SourceWorld → Type 0) (Others : List ScheduleLine → CodeWorld → Type 0) where
  -- under one schedule: each step is met, and the starts are related
  pub record MeetsUnder (schedule : List ScheduleLine) : Type 0 where
    pub meets : Meets (source_behaviour p schedule) (behaviour i schedule) rel frames_of limit (Ones schedule) (Others schedule)
    pub starts : Related (source_behaviour p schedule) (behaviour i schedule) rel frames_of limit (Ones schedule) (Others schedule)
        (source_start p schedule) (start i schedule)

  pub met_keeps_count : LinesGrow → QuietStays → ((schedule : List ScheduleLine) → is_schedule schedule ≡ true → MeetsUnder schedule) → KeepsCount p i limit
  met_keeps_count grow quiet all schedule ok =
      let f = source_behaviour p schedule in
      let g = behaviour i schedule in
      let x = all schedule ok in (
        steps_of_other f g rel frames_of limit (Ones schedule) (Others schedule) grow quiet x.meets (source_start p schedule) (start i schedule) x.starts,
        met_paced f g rel frames_of limit (Ones schedule) (Others schedule) grow quiet x.meets (source_start p schedule) (start i schedule) x.starts,
      )
