-- When an image has the meaning of a program, and when it also keeps a count of steps.
use Rattle.std.specs.Prelude.{◌≡◌, ℕ, suc, List, length, true}
use Rattle.base.specs.Schedule.{is_schedule}
use Rattle.base.specs.declared.schedule.ScheduleLine.{ScheduleLine}
use Rattle.kernel.specs.Worlds.{among}
use Rattle.image.specs.Sections.{Sections}
use Rattle.image.specs.Texts.{names_of}
use Rattle.image.specs.Frames.{TaskState}
use Rattle.image.specs.Steps.{behaviour}
use Rattle.image.specs.Code.{code, start}
use Rattle.ada_tree.specs.ProgramTree.{ProgramTree}
use Rattle.meaning.specs.Same.{ShowSame}
use Rattle.meaning.specs.Following.{Paced}
use Rattle.meaning.specs.Meeting.{Counted}
use Rattle.meaning.specs.Source.{source, source_start, source_names, source_behaviour}

-- tasks and exceptions have the same names
pub record SameNames (p : ProgramTree) (i : Sections) : Type 0 where
  pub tasks : (t : ℕ) → (names_of i).task t ≡ (source_names p).task t
  pub exceptions : (x : ℕ) → (names_of i).exception x ≡ (source_names p).exception x

-- under each schedule both runs show the same: after any number of source steps the lines begin those of the code after some number of steps, and an outcome
-- of the source is the outcome of the code, with its time and lines; and the other way round
pub record SameMeaning (p : ProgramTree) (i : Sections) : Type 0 where
  pub names : SameNames p i
  pub shows : (schedule : List ScheduleLine) → is_schedule schedule ≡ true → ShowSame (λ n. (source p schedule n).kernel) (λ m. (code i schedule m).kernel)

-- the frames of a task; of a handler one of them never runs
abbrev pub frames_of : TaskState → ℕ
frames_of s = suc (length s.callers)

-- for each schedule there is a function from numbers of source steps to numbers of code steps with equal kernels; of the code steps for one source step, or for
-- one call within it, each frame takes at most the limit for the state in which it begins
abbrev pub KeepsCount : ProgramTree → Sections → (TaskState → ℕ) → Type 0
KeepsCount p i limit =
    (schedule : List ScheduleLine)
    → is_schedule schedule ≡ true
    → (at : ℕ → ℕ) × Paced (among (source_behaviour p schedule)) (among (behaviour i schedule)) (Counted (behaviour i schedule) frames_of limit)
    (source_start p schedule) (start i schedule) at
