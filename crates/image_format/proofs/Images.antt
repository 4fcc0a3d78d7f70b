-- Small images for worked examples.
use Rattle.std.proofs.Common.{ℕ, List, [], ◌∷◌, ◌++◌, pos, None, Some}
use Rattle.std.specs.Prelude.{codes}
use Rattle.handlers.specs.declared.rows.Row.{Row}
use Rattle.base.specs.Names.{predefined}
use Rattle.image.specs.ObjectTable.{ObjectRow}
use Rattle.image.specs.Sections.{Sections}
use Rattle.image.specs.declared.attachments.Attachment.{Attachment}
use Rattle.image.specs.declared.instruction.Instr.{Instr}
use Rattle.image.specs.declared.instruction.Operation.{Operation}
use Rattle.image.specs.declared.instruction.Operation.TheVariants as op
use Rattle.image.specs.declared.instruction.Region.TheVariants as regions
use Rattle.image.specs.declared.objects.Barrier.TheVariants as barriers
use Rattle.image.specs.declared.subprograms.Kind.{Kind}
use Rattle.image.specs.declared.subprograms.Kind.TheVariants.{Plain, ProtectedProcedure, ProtectedFunction, EntryBody, TaskBody}
use Rattle.image.specs.declared.subprograms.Subprogram.{Subprogram}
use Rattle.image.specs.declared.tasks.Task.{Task}

abbrev pub at : ℕ → Operation → Instr
at depth operation = record { depth = depth; operation = operation }

abbrev pub sub : Kind → ℕ → ℕ → ℕ → ℕ → ℕ → Subprogram
sub kind end_ parameters results locals stack = record { kind = kind; end_ = end_; parameters = parameters; results = results; locals = locals; stack = stack }

abbrev pub body : ℕ → ℕ → ℕ → Subprogram
body end_ locals stack = sub TaskBody end_ 0 0 locals stack

abbrev pub task : List ℕ → ℕ → ℕ → Task
task name priority n = record { name = name; priority = priority; subprogram = n }

abbrev pub main_is : ℕ → List Task
main_is n = task (codes "MAIN") 15 n ∷ []

abbrev pub row : ℕ → ℕ → ℕ → ℕ → Row
row start end_ exception target = record { start = start; end_ = end_; exception = exception; target = target }

-- labels, subprograms, tasks, rows and instructions of an image without objects
abbrev pub plain_image : List (List ℕ) → List Subprogram → List Task → List Row → List Instr → Sections
plain_image labels subprograms tasks rows instructions =
    record { exceptions = predefined; labels = labels; plain_words = []; objects = []; subprograms = subprograms; tasks = tasks; rows = rows; attachments = []; instructions = instructions }

abbrev pub say : ℕ → ℕ → List Instr
say value label = at 0 (op.Push (pos value)) ∷ at 1 (op.PutLine label) ∷ []

abbrev pub thousand : Sections
thousand = plain_image (codes "x" ∷ []) (body 3 0 1 ∷ []) (main_is 0) [] (say 1000 0 ++ at 0 op.Return ∷ [])

-- a procedure that handles the interrupts of channel 3

abbrev pub attached : ℕ → ℕ → Attachment
attached channel subprogram = record { channel = channel; subprogram = subprogram }

abbrev pub handled : Sections
handled = record {
  exceptions = predefined;
  labels = [];
  plain_words = [];
  objects = record { ceiling = 31; entry = None; barrier = barriers.Closed; words = [] } ∷ [];
  subprograms = body 1 0 0 ∷ sub (ProtectedProcedure 0) 2 0 0 0 0 ∷ [];
  tasks = main_is 0;
  rows = [];
  attachments = attached 3 1 ∷ [];
  instructions = at 0 op.Return ∷ at 0 op.Return ∷ [];
}

-- a protected object with an entry, in an image with a handler

abbrev object_of_entry : ObjectRow
object_of_entry = record { ceiling = 10; entry = Some 2; barrier = barriers.Word 1; words = pos 0 ∷ pos 0 ∷ [] }

abbrev pub kept : Sections
kept = record {
  exceptions = predefined ++ codes "BAD" ∷ [];
  labels = codes "x" ∷ [];
  plain_words = pos 10 ∷ pos 20 ∷ [];
  objects = object_of_entry ∷ [];
  subprograms =
      sub (ProtectedProcedure 0) 5 1 0 1 2 ∷ sub (ProtectedFunction 0) 12 0 1 0 3 ∷ sub (EntryBody 0) 15 0 0 0 1 ∷ sub Plain 21 1 1 1 2 ∷ body 30 0 1 ∷ body 44 0 2 ∷ [];
  tasks = task (codes "A") 5 4 ∷ main_is 5;
  rows = row 21 26 1 28 ∷ [];
  attachments = [];
  instructions =
      -- 0: a procedure of object 0
      at 0 (op.LoadLocal 0) ∷ at 1 (op.StoreObject 0) ∷ at 0 (op.Call 1) ∷ at 1 op.Drop ∷ at 0 op.Return
      -- 5: a function of object 0
      ∷ at 0 (op.LoadObject 0) ∷ at 1 op.Duplicate ∷ at 2 op.Duplicate ∷ at 3 (op.StoreIndexed regions.Plain) ∷ at 1 op.Duplicate ∷ at 2 op.Drop ∷ at 1 op.Return
      -- 12: the body of its entry
      ∷ at 0 (op.Push (pos 1)) ∷ at 1 (op.StoreObject 1) ∷ at 0 op.Return
      -- 15: a plain function
      ∷ at 0 (op.LoadLocal 0) ∷ at 1 (op.JumpIfZero 19) ∷ at 0 (op.Push (pos 5)) ∷ at 1 op.Return ∷ at 0 (op.Push (pos 6)) ∷ at 1 op.Return
      -- 21: the body of task A, with a handler at 28
      ∷ at 0 (op.Push (pos 3)) ∷ at 1 (op.ProtectedCall 0) ∷ at 0 (op.EntryCall 0) ∷ at 0 (op.Push (pos 1)) ∷ at 1 (op.Call 3) ∷ at 1 (op.PutLine 0) ∷ at 0 op.Return ∷ at 1 op.Drop ∷ at 0 op.Return
      -- 30: the body of main
      ∷ at 0 (op.LoadPlain 0) ∷ at 1 (op.StorePlain 1) ∷ at 0 (op.Push (pos 0)) ∷ at 1 (op.LoadIndexed regions.Plain) ∷ at 1 op.Drop
      ∷ at 0 (op.Push (pos 0)) ∷ at 1 (op.LoadBlock regions.Plain 2) ∷ at 2 (op.PutLine 0) ∷ at 1 (op.PutLine 0)
      ∷ at 0 (op.Push (pos 0)) ∷ at 1 (op.Push (pos 1)) ∷ at 2 (op.Copy regions.Plain regions.Plain 1) ∷ at 0 op.CheckBlocking ∷ at 0 op.Return ∷ [];
}
