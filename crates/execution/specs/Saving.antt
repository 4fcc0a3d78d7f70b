-- Copies of what a run holds, and the worlds of code that runs go on from; nobody has to believe this.
use Rattle.std.specs.Prelude.{◌≡◌, ◌+◌, ℤ, List, length}
use Rattle.image.specs.Code.{CodeWorld}
use Rattle.image.specs.Sections.{Sections}
use Rattle.image_laws.specs.Room.{widest}
use Rattle.kernel.specs.State.{Interrupt}
use Rattle.processor.specs.Decoding.{HasAllWords, words_in}
use Rattle.processor.specs.Layout.{TaskRow}
use Rattle.tasking.specs.Held.{Held, kernel_of}
use Rattle.execution.specs.Held.{HeldWorld, RowsAreWide, task_at, tasks_in}

-- the words that tasks share, and the rows of frames
pub record HeldContents : Type 0 where
  pub words : List ℤ
  pub tasks : List TaskRow

-- there are all words and rows of an image
pub record HasAllRows (i : Sections) (c : HeldContents) : Type 0 where
  pub all : HasAllWords i c.words
  pub wide : RowsAreWide (widest i) c.tasks
  pub count : length c.tasks ≡ length i.tasks + 1

-- they are those of a run
pub record AreContentsOf (h : HeldWorld) (c : HeldContents) : Type 0 where
  pub fits : HasAllRows h.image c
  pub words : words_in h.image c.words ≡ words_in h.image h.memory.shared
  pub tasks : tasks_in c.tasks ≡ h.tasks

-- the world of code with these words and frames, and these pending interrupts
abbrev pub world_in : Sections → HeldContents → Held → List Interrupt → CodeWorld
world_in i c t pending = record {
  kernel = record (kernel_of t) { pending = pending };
  rest = record { memory = words_in i c.words; tasks = task_at i t.handler (tasks_in c.tasks) };
}
