-- The numbers of an image fit where they stand in its bytes: in 16 bits, words in 64; nobody has to believe this.
use Rattle.std.specs.Prelude.{ℕ, ℤ, List, [], ◌∷◌, ◌<◌, unwrap_or, FitsSigned}
use Rattle.std.specs.Int.{w64}
use Rattle.handlers.specs.declared.rows.Row.{Row}
use Rattle.image.specs.ObjectTable.{ObjectRow}
use Rattle.image.specs.Sections.{Sections}
use Rattle.image.specs.declared.attachments.Attachment.{Attachment}
use Rattle.image.specs.declared.instruction.Instr.{Instr}
use Rattle.image.specs.declared.subprograms.Subprogram.{Subprogram}
use Rattle.image.specs.declared.tasks.Task.{Task}
use Rattle.image_format.specs.Bytes.{address_of, constant_of}
use Rattle.image_loading.specs.Loading.{object_of_kind, word_of_barrier}

abbrev pub IsHalf : ℕ → Type 0
IsHalf n = n < 65536

abbrev pub IsWord : ℤ → Type 0
IsWord z = FitsSigned w64 z

abbrev pub EachOf : {X : Type 0} → (X → Type 0) → List X → Type 0
EachOf P [] = Unit {0}
EachOf P (x ∷ xs) = P x × EachOf P xs

pub record ObjectFits (o : ObjectRow) : Type 0 where
  pub entry : IsHalf (unwrap_or o.entry 65535)
  pub word : IsHalf (word_of_barrier o.barrier)
  pub words : EachOf IsWord o.words

pub record SubprogramFits (s : Subprogram) : Type 0 where
  pub object : IsHalf (object_of_kind s.kind)
  pub end_ : IsHalf s.end_
  pub parameters : IsHalf s.parameters
  pub results : IsHalf s.results
  pub locals : IsHalf s.locals
  pub stack : IsHalf s.stack

abbrev pub TaskNumbersFit : Task → Type 0
TaskNumbersFit t = IsHalf t.subprogram

pub record RowFits (r : Row) : Type 0 where
  pub start : IsHalf r.start
  pub end_ : IsHalf r.end_
  pub exception : IsHalf r.exception
  pub target : IsHalf r.target

abbrev pub AttachmentFits : Attachment → Type 0
AttachmentFits a = IsHalf a.subprogram

pub record InstructionFits (x : Instr) : Type 0 where
  pub depth : IsHalf x.depth
  pub address : IsHalf (address_of x.operation)
  pub constant : IsWord (constant_of x.operation)

pub record SectionsFit (i : Sections) : Type 0 where
  pub plain_words : EachOf IsWord i.plain_words
  pub objects : EachOf ObjectFits i.objects
  pub subprograms : EachOf SubprogramFits i.subprograms
  pub tasks : EachOf TaskNumbersFit i.tasks
  pub rows : EachOf RowFits i.rows
  pub attachments : EachOf AttachmentFits i.attachments
  pub instructions : EachOf InstructionFits i.instructions
