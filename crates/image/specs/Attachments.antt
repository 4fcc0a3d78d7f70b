-- The handlers of interrupts that an image has (RM C.3.1), and the interrupts of a schedule.
use Rattle.std.specs.Prelude.{ℕ, List, [], ◌∷◌, Option, Some, None, nat_eq, if◌then◌else◌}
use Rattle.base.specs.declared.schedule.ScheduleLine.{ScheduleLine}
use Rattle.kernel.specs.State.{Interrupt}
use Rattle.kernel.specs.Interrupts.{interrupts_of}
use Rattle.image.specs.Sections.{Sections, object_of}
use Rattle.image.specs.Operations.{called_if}
use Rattle.image.specs.Frames.{kind_of}
use Rattle.image.specs.declared.attachments.Attachment.{Attachment}

-- the procedure that is attached to a channel
abbrev pub attached_to : ℕ → List Attachment → Option ℕ
attached_to channel [] = None
attached_to channel (a ∷ rest) = if nat_eq a.channel channel then Some a.subprogram else attached_to channel rest

-- the object that it belongs to
abbrev pub handling_object : Sections → ℕ → Option ℕ
handling_object i channel = object_of (kind_of (called_if i (attached_to channel i.attachments)))

abbrev pub interrupts : Sections → List ScheduleLine → List Interrupt
interrupts i schedule = interrupts_of (handling_object i) schedule
