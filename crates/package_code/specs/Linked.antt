-- What it is that an image has the code of a program (docs/CODEGEN.md).
use Rattle.std.specs.Prelude.{◌≡◌, ℕ, pos, List, [], ◌∷◌, length, None, Some, replicate, slice_get, ⊤}
use Rattle.ada_tree.specs.ProgramTree.{ProgramTree}
use Rattle.base.specs.declared.schedule.ScheduleLine.{ScheduleLine}
use Rattle.image.specs.Attachments.{attached_to, interrupts}
use Rattle.image.specs.Code.{initial_words}
use Rattle.image.specs.Code as sections
use Rattle.image.specs.Operations.{called}
use Rattle.image.specs.Frames.{Inner}
use Rattle.image.specs.Sections.{Sections, first_place, object_of}
use Rattle.image.specs.declared.subprograms.Subprogram.{Subprogram}
use Rattle.image.specs.declared.tasks.Task as rows
use Rattle.types.specs.Places.{ceiling_of}
use Rattle.expr_soundness.specs.meaning.specs.Programs.{Attached, Program, Task, handler_at, program_interrupts, program_of}
use Rattle.expr_soundness.specs.meaning.specs.Source.{duty_items}
use Rattle.program_soundness.specs.step_soundness.specs.Objects.{first_store}
use Rattle.expr_code.specs.Seeing.{Package}
use Rattle.step_simulation.specs.Laws.{HasCode}
use Rattle.step_simulation.specs.Standing.{Around, Follows, Note}
use Rattle.step_simulation.specs.part_code.specs.Resting.{RestsWith, StandsFor}
use Rattle.step_simulation.specs.part_code.specs.Statements.{Numbers}

-- The row of the image's table is that of the task: it has its name and its base priority, and the code of its subprogram begins with the work that the task
-- has to do, with no frame below, where a frame whose words are all 0 stands for what is visible.
pub record IsLinkedTask (program : Program) (i : Sections) (g : Package) (numbers : Numbers) (task : Task) (row : rows.Task) : Type 0 where
  pub name : row.name ≡ task.name
  pub priority : row.priority ≡ task.priority
  pub s : Subprogram
  pub there : called i row.subprogram ≡ Some s
  pub object : object_of s.kind ≡ None
  pub around : Around i program g numbers
  pub begins : (note : Note) → Follows i program g numbers note around row.subprogram (first_place i row.subprogram) (duty_items task.duty) Inner [] []
  pub rests : RestsWith g around.visible around.held (record { within = None; locals = [] }) (replicate s.locals (pos 0))

-- as many rows as tasks, in the same order, each that of its task
abbrev pub AreLinkedTasks : (program : Program) (i : Sections) (g : Package) (numbers : Numbers) → List Task → List rows.Task → Type 0
AreLinkedTasks program i g numbers [] [] = ⊤
AreLinkedTasks program i g numbers (task ∷ tasks) (row ∷ rest) =
    IsLinkedTask program i g numbers task row × AreLinkedTasks program i g numbers tasks rest
AreLinkedTasks program i g numbers tasks rest = ⊥

pub record IsLinkedProgram (p : ProgramTree) (i : Sections) (g : Package) (numbers : Numbers) : Type 0 where
  pub exceptions : i.exceptions ≡ (program_of p).exceptions
  -- the protected objects, each at its number
  pub objects : length i.objects ≡ (program_of p).objects
  pub ceilings : (o : ℕ) → ceiling_of (program_of p).scope o ≡ sections.ceiling_of (slice_get i.objects o)
  -- the tasks, main last
  pub tasks : AreLinkedTasks (program_of p) i g numbers (program_of p).tasks i.tasks
  -- the handlers of interrupts (RM C.3.1)
  pub interrupts : (schedule : List ScheduleLine) → interrupts i schedule ≡ program_interrupts (program_of p) schedule
  pub attached : (channel number : ℕ) → attached_to channel i.attachments ≡ Some number
      → (a : Attached) × (handler_at channel (program_of p).handlers ≡ Some a)
  -- procedures and functions, and the first words of variables
  pub code : HasCode i (program_of p) g numbers
  pub words : StandsFor (program_of p) g (first_store (program_of p)) (initial_words i)
