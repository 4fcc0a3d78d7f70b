-- A step does not read the lines that were written.
use Rattle.std.proofs.Common.{◌≡◌, ℕ, List, Option, Some, None, refl}
use Rattle.std.specs.Prelude.{slice_get}
use Rattle.base.specs.declared.schedule.ScheduleLine.{ScheduleLine}
use Rattle.kernel.specs.State.{Kernel, Line}
use Rattle.image.specs.Frames.{Frame, Words}
use Rattle.image.specs.Sections.{Sections}
use Rattle.image.specs.Steps.{does_instruction, does_operation, does_or_raises}
use Rattle.image.specs.declared.instruction.Instr.{Instr}
use Rattle.image_laws.specs.Whole.{LinesUnread}

module _ (i : Sections) (schedule : List ScheduleLine) (k : Kernel) (lines : List Line) (t : ℕ) (m : Words) (f : Frame) (fs : List Frame) where
  instruction_unread : (x : Option Instr) → does_instruction i schedule (record k { lines = lines }) t m f fs x ≡ does_instruction i schedule k t m f fs x
  instruction_unread None = refl
  instruction_unread (Some x) = refl

  unread : (x : Option ℕ) → does_or_raises i schedule (record k { lines = lines }) t m f fs x ≡ does_or_raises i schedule k t m f fs x
  unread (Some x) = refl
  unread None = instruction_unread (slice_get i.instructions f.place)

pub lines_unread : LinesUnread
lines_unread i schedule k lines t s = unread i schedule k lines t s.memory s.task.frame s.task.callers s.task.raising
