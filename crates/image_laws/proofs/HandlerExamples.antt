-- Runs of images with handlers of interrupts worked by computation: lines delivered, services, an exception that is dropped.
use Rattle.std.proofs.Common.{◌≡◌, ℕ, List, [], ◌∷◌, ◌++◌, pos, Some, None, true, false, refl}
use Rattle.std.specs.Prelude.{codes}
use Rattle.std.specs.Fmt.{digits}
use Rattle.base.specs.Names.{predefined}
use Rattle.base.specs.declared.schedule.ScheduleLine.{ScheduleLine}
use Rattle.handlers.specs.declared.rows.Row.{Row}
use Rattle.image.specs.Code.{code_text}
use Rattle.image.specs.ObjectTable.{ObjectRow}
use Rattle.image.specs.Sections.{Sections}
use Rattle.image.specs.declared.attachments.Attachment.{Attachment}
use Rattle.image.specs.declared.instruction.Instr.{Instr}
use Rattle.image.specs.declared.instruction.Operation.TheVariants as op
use Rattle.image.specs.declared.objects.Barrier.TheVariants as barriers
use Rattle.image.specs.declared.subprograms.Kind.TheVariants.{Plain, ProtectedProcedure, EntryBody}
use Rattle.image.specs.declared.subprograms.Subprogram.{Subprogram}
use Rattle.image.specs.declared.tasks.Task.{Task}
use Rattle.image_laws.proofs.Examples.{at, body, keeps, main_is, row, say, sub, task}

-- one object of the highest ceiling, whose entry is subprogram 1 and whose subprogram 0 is the handler of a channel
abbrev handled_image : ℕ → List (List ℕ) → ObjectRow → List Subprogram → List Task → List Row → List Instr → Sections
handled_image channel labels object subprograms tasks rows instructions =
    record {
      exceptions = predefined ++ codes "BAD" ∷ [];
      labels = labels;
      plain_words = [];
      objects = object ∷ [];
      subprograms = subprograms;
      tasks = tasks;
      rows = rows;
      attachments = record { channel = channel; subprogram = 0 } ∷ [];
      instructions = instructions;
    }

abbrev line : ℕ → ℕ → ℕ → ScheduleLine
line time channel value = record { time = pos time; channel = channel; value = pos value }

abbrev box : ℕ → ObjectRow
box ceiling = record { ceiling = ceiling; entry = Some 1; barrier = barriers.Word 1; words = pos 0 ∷ pos 0 ∷ [] }

abbrev set : ℕ → ℕ → List Instr
set address value = at 0 (op.Push (pos value)) ∷ at 1 (op.StoreObject address) ∷ []

abbrev return_ : List Instr
return_ = at 0 op.Return ∷ []

abbrev take_and_say : List Instr
take_and_say = at 0 op.CheckBlocking ∷ at 0 (op.EntryCall 0) ∷ at 1 (op.PutLine 0) ∷ []

-- The handler of channel 2 reads it into the box and opens the barrier; C takes two values
abbrev filled : ℕ → Sections
filled ceiling =
    handled_image 2 (codes "got" ∷ []) (box ceiling)
    (sub (ProtectedProcedure 0) 6 0 0 0 1 ∷ sub (EntryBody 0) 12 0 1 1 1 ∷ body 19 0 1 ∷ body 20 0 0 ∷ [])
    (task (codes "C") 10 2 ∷ main_is 3) []
    (at 0 (op.Push (pos 2)) ∷ at 1 op.ReadInput ∷ at 1 (op.StoreObject 0) ∷ set 1 1 ++ return_
    ++ at 0 (op.LoadObject 0) ∷ at 1 (op.StoreLocal 0) ∷ set 1 0 ++ at 0 (op.LoadLocal 0) ∷ at 1 op.Return ∷ take_and_say ++ take_and_say ++ return_ ++ return_)

filled_keeps : keeps (filled 31) ≡ true
filled_keeps = refl

-- the handler's object has the highest ceiling
low_ceiling_breaks : keeps (filled 30) ≡ false
low_ceiling_breaks = refl

filled_text : code_text (filled 31) (line 5 2 7 ∷ line 5 2 8 ∷ line 9 2 4 ∷ []) 100 ≡ codes "5 C got 8\n5 C got 8\nended at 5\n"
unfolding digits
filled_text = refl

unfilled_text : code_text (filled 31) (line 5 1 7 ∷ []) 100 ≡ codes "waits forever at 0\n"
unfolding digits
unfilled_text = refl

-- The handler opens the barrier and raises; it serves the queued call, and the exception is dropped
abbrev raised : Sections
raised =
    handled_image 1 (codes "body" ∷ codes "c" ∷ []) (record { ceiling = 31; entry = Some 1; barrier = barriers.Word 0; words = pos 0 ∷ [] })
    (sub (ProtectedProcedure 0) 4 0 0 0 1 ∷ sub (EntryBody 0) 9 0 0 0 1 ∷ body 13 0 1 ∷ body 14 0 0 ∷ [])
    (task (codes "C") 10 2 ∷ main_is 3) []
    (set 0 1 ++ at 0 (op.Push (pos 5)) ∷ at 1 op.Raise ∷ set 0 0 ++ say 1 0 ++ return_ ++ at 0 (op.EntryCall 0) ∷ say 2 1 ++ return_ ++ return_)

raised_keeps : keeps raised ≡ true
raised_keeps = refl

raised_text : code_text raised (line 3 1 0 ∷ []) 100 ≡ codes "3 INTERRUPT_1 body 1\n3 C c 2\nended at 3\n"
unfolding digits
raised_text = refl

-- and it begins anew at the next line
raised_again_text : code_text raised (line 3 1 0 ∷ line 3 1 0 ∷ []) 100 ≡ codes "3 INTERRUPT_1 body 1\n3 C c 2\nended at 3\n"
unfolding digits
raised_again_text = refl
