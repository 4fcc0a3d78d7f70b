-- The laws of source runs and of the same meaning, as statements; each is the contract of a public function.
use Rattle.std.specs.Prelude.{◌≡◌, ◌≢◌, ℕ, ◌+◌, List, ◌++◌, Some, true}
use Rattle.base.specs.Schedule.{is_schedule}
use Rattle.base.specs.declared.schedule.ScheduleLine.{ScheduleLine}
use Rattle.kernel.specs.State.{Line, Outcome, ImageFault}
use Rattle.kernel.specs.Text.{lines_text}
use Rattle.image.specs.Sections.{Sections}
use Rattle.image.specs.Texts.{names_of}
use Rattle.image.specs.Frames.{TaskState}
use Rattle.image.specs.Code.{code, code_text}
use Rattle.ada_tree.specs.ProgramTree.{ProgramTree}
use Rattle.meaning.specs.Source.{source, source_text, source_names}
use Rattle.meaning.specs.SameMeaning.{SameNames, SameMeaning, KeepsCount}

-- a world with an outcome does not change
abbrev pub SourceStays : Type 0
SourceStays = (p : ProgramTree) (schedule : List ScheduleLine) (n j : ℕ) (o : Outcome) → (source p schedule n).kernel.outcome ≡ Some o
    → source p schedule (n + j) ≡ source p schedule n

-- the lines of a world begin those of each later one
abbrev pub SourceLinesGrow : Type 0
SourceLinesGrow = (p : ProgramTree) (schedule : List ScheduleLine) (n j : ℕ) → (more : List Line)
    × ((source p schedule (n + j)).kernel.lines ≡ (source p schedule n).kernel.lines ++ more)

-- an image fault is no outcome of a source run
abbrev pub SourceNeverFaults : Type 0
SourceNeverFaults = (p : ProgramTree) (schedule : List ScheduleLine) (n : ℕ) → (source p schedule n).kernel.outcome ≢ Some ImageFault

-- so it is none of an image with the meaning of a program
abbrev pub MeaningNeverFaults : Type 0
MeaningNeverFaults =
    (p : ProgramTree) (i : Sections) → SameMeaning p i → (schedule : List ScheduleLine) → is_schedule schedule ≡ true → (m : ℕ)
    → (code i schedule m).kernel.outcome ≢ Some ImageFault

-- a count of steps gives both directions
abbrev pub CountGivesMeaning : Type 0
CountGivesMeaning = (p : ProgramTree) (i : Sections) (limit : TaskState → ℕ) → SameNames p i → KeepsCount p i limit → SameMeaning p i

-- what both write: the same text where one of them has an outcome, and cut anywhere the code has written a beginning of the source's lines
pub record WriteSame (p : ProgramTree) (i : Sections) (schedule : List ScheduleLine) : Type 0 where
  pub forth : (n : ℕ) (o : Outcome) → (source p schedule n).kernel.outcome ≡ Some o → (m : ℕ) × (code_text i schedule m ≡ source_text p schedule n)
  pub back : (m : ℕ) (o : Outcome) → (code i schedule m).kernel.outcome ≡ Some o → (n : ℕ) × (code_text i schedule m ≡ source_text p schedule n)
  pub cut : (m : ℕ) → (n : ℕ) × (more : List ℕ) × (lines_text (source_names p) (source p schedule n).kernel.lines ≡ lines_text (names_of i)
      (code i schedule m).kernel.lines ++ more)

abbrev pub MeaningIsWritten : Type 0
MeaningIsWritten = (p : ProgramTree) (i : Sections) → SameMeaning p i → (schedule : List ScheduleLine) → is_schedule schedule ≡ true → WriteSame p i schedule
