-- The sections that raw sections stand for. A number that stands for nothing gives way to one that does; the rules refuse it (specs/Loading).
use Rattle.std.specs.Prelude.{ℕ, zero, suc, ◌∷◌, slice_get, ◌/◌, ◌%◌, ℤ, pos, negsuc, List, [], length, map, Option, Some, None, unwrap_or, nat_eq, nat_le, if◌then◌else◌}
use Rattle.image.specs.ObjectTable.{ObjectRow}
use Rattle.image_loading.specs.RawRows.{RawObjectRow, RawTaskRow}
use Rattle.image_loading.specs.Reading.{Raw}
use Rattle.image.specs.Sections.{Sections}
use Rattle.image.specs.declared.instruction.Instr.{Instr}
use Rattle.image.specs.declared.instruction.Operation.{Operation}
use Rattle.image.specs.declared.instruction.Operation.TheVariants.{Push, Drop, Duplicate, LoadLocal, StoreLocal, LoadPlain, StorePlain, LoadObject, StoreObject, LoadIndexed, StoreIndexed, LoadBlock, StoreBlock, Copy, Negate, Absolute, Add, Subtract, Multiply, Divide, Modulo, Remainder, CheckRange, Equal, NotEqual, Less, LessOrEqual, Greater, GreaterOrEqual, And, Or, ExclusiveOr, Not, Jump, JumpIfZero, JumpIfNotZero, Call, ProtectedCall, EntryCall, Return, Raise, CheckBlocking, DelayUntil, PutLine, ReadInput, Clock}
use Rattle.image.specs.declared.instruction.Region.{Region}
use Rattle.image.specs.declared.instruction.Region.TheVariants as regions
use Rattle.image.specs.declared.objects.Barrier.{Barrier}
use Rattle.image.specs.declared.objects.Barrier.TheVariants.{Closed, Open, Word}
use Rattle.image_loading.specs.declared.raw_sections.RawInstruction.{RawInstruction}
use Rattle.image_loading.specs.declared.raw_sections.RawSubprogram.{RawSubprogram}
use Rattle.image.specs.declared.subprograms.Kind.{Kind}
use Rattle.image.specs.declared.subprograms.Kind.TheVariants.{Plain, ProtectedProcedure, ProtectedFunction, EntryBody, TaskBody}
use Rattle.image.specs.declared.subprograms.Subprogram.{Subprogram}
use Rattle.image.specs.declared.tasks.Task.{Task}
use Rattle.base.specs.declared.limits.TheConstants.{NAME_LIMIT}

abbrev pub region_from : ℕ → Region
region_from n = if nat_eq n 1 then regions.Plain else (if nat_eq n 2 then regions.Object else regions.Locals)

-- the words of a block
abbrev pub block_from : ℤ → ℕ
block_from (pos n) = if nat_le n 65535 then n else 65535
block_from (negsuc n) = 0

-- the operations in the order of their opcodes, from 01 on, with the operands a and k
abbrev pub operations : ℕ → ℤ → List Operation
operations a k =
    Push k ∷ Drop ∷ Duplicate ∷ LoadLocal a ∷ StoreLocal a ∷ LoadPlain a ∷ StorePlain a ∷ LoadObject a
    ∷ StoreObject a ∷ LoadIndexed (region_from a) ∷ StoreIndexed (region_from a) ∷ LoadBlock (region_from a) (block_from k) ∷ StoreBlock (region_from a)
    (block_from k) ∷ Copy (region_from (a / 3)) (region_from (a % 3)) (block_from k) ∷ Negate ∷ Absolute
    ∷ Add ∷ Subtract ∷ Multiply ∷ Divide ∷ Modulo ∷ Remainder ∷ CheckRange ∷ Equal
    ∷ NotEqual ∷ Less ∷ LessOrEqual ∷ Greater ∷ GreaterOrEqual ∷ And ∷ Or ∷ ExclusiveOr
    ∷ Not ∷ Jump a ∷ JumpIfZero a ∷ JumpIfNotZero a ∷ Call a ∷ ProtectedCall a ∷ EntryCall a ∷ Return
    ∷ Raise ∷ CheckBlocking ∷ DelayUntil ∷ PutLine a ∷ ReadInput ∷ Clock ∷ []

-- the operation of an opcode; there is none but for 01 to 2e
unfoldable pub operation_from : ℕ → ℕ → ℤ → Option Operation
operation_from zero a k = None
operation_from (suc n) a k = slice_get (operations a k) n

abbrev pub operation_of : RawInstruction → Option Operation
operation_of x = operation_from x.opcode x.address x.constant

abbrev pub instruction_of : RawInstruction → Instr
instruction_of x = record { depth = x.depth; operation = unwrap_or (operation_of x) Raise }

abbrev pub entry_from : ℕ → Option ℕ
entry_from n = if nat_eq n 65535 then None else Some n

abbrev pub barrier_from : ℕ → ℕ → Barrier
barrier_from n word = if nat_eq n 0 then Closed else (if nat_eq n 2 then Word word else Open)

abbrev pub object_from : RawObjectRow → ObjectRow
object_from o = record { ceiling = o.ceiling; entry = entry_from o.entry; barrier = barrier_from o.barrier o.barrier_word; words = o.words }

abbrev pub kind_from : ℕ → ℕ → Kind
kind_from n object =
    if nat_eq n 1
    then ProtectedProcedure object
    else (if nat_eq n 2 then ProtectedFunction object else (if nat_eq n 3 then EntryBody object else (if nat_eq n 4 then TaskBody else Plain)))

abbrev pub subprogram_from : RawSubprogram → Subprogram
subprogram_from s = record {
  kind = kind_from s.kind s.object;
  end_ = s.end_;
  parameters = s.parameters;
  results = s.results;
  locals = s.locals;
  stack = s.stack;
}

-- a text, or none where it is too long for one
abbrev pub text_from : List ℕ → List ℕ
text_from text = if nat_le (length text) NAME_LIMIT then text else []

abbrev pub task_from : RawTaskRow → Task
task_from t = record { name = text_from t.name; priority = t.priority; subprogram = t.subprogram }

abbrev pub sections_of : Raw → Sections
sections_of r = record {
  exceptions = map text_from r.exceptions;
  labels = map text_from r.labels;
  plain_words = r.plain_words;
  objects = map object_from r.objects;
  subprograms = map subprogram_from r.subprograms;
  tasks = map task_from r.tasks;
  rows = r.rows;
  attachments = r.attachments;
  instructions = map instruction_of r.instructions;
}
