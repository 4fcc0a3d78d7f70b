-- The listing of an image (docs/FORMATS.md, "Listing").
use Rattle.std.specs.Prelude.{ℕ, ◌+◌, ◌-◌, List, [], ◌∷◌, ◌++◌, length, take, drop, replicate, flat_map, Option, Some, None, codes, decimal}
use Rattle.std.specs.Fmt.{signed_decimal}
use Rattle.handlers.specs.declared.rows.Row.{Row}
use Rattle.image_format.specs.Bytes.{address_of, constant_of, kind_number}
use Rattle.image.specs.ObjectTable.{ObjectRow}
use Rattle.image.specs.Sections.{Sections, object_of}
use Rattle.image.specs.declared.attachments.Attachment.{Attachment}
use Rattle.image.specs.declared.instruction.Instr.{Instr}
use Rattle.image.specs.declared.instruction.Operation.{Operation}
use Rattle.image.specs.declared.instruction.Operation.TheVariants.{Push, Drop, Duplicate, LoadLocal, StoreLocal, LoadPlain, StorePlain, LoadObject, StoreObject, LoadIndexed, StoreIndexed, LoadBlock, StoreBlock, Copy, Negate, Absolute, Add, Subtract, Multiply, Divide, Modulo, Remainder, CheckRange, Equal, NotEqual, Less, LessOrEqual, Greater, GreaterOrEqual, And, Or, ExclusiveOr, Not, Jump, JumpIfZero, JumpIfNotZero, Call, ProtectedCall, EntryCall, Return, Raise, CheckBlocking, DelayUntil, PutLine, ReadInput, Clock}
use Rattle.image.specs.declared.objects.Barrier.{Barrier}
use Rattle.image.specs.declared.objects.Barrier.TheVariants.{Closed, Open, Word}
use Rattle.image.specs.declared.subprograms.Subprogram.{Subprogram}
use Rattle.image.specs.declared.tasks.Task.{Task}

-- the name of an operation
unfoldable pub mnemonic : Operation → List ℕ
mnemonic (Push k) = codes "PUSH"
mnemonic Drop = codes "DROP"
mnemonic Duplicate = codes "DUP"
mnemonic (LoadLocal a) = codes "LDL"
mnemonic (StoreLocal a) = codes "STL"
mnemonic (LoadPlain a) = codes "LDG"
mnemonic (StorePlain a) = codes "STG"
mnemonic (LoadObject a) = codes "LDP"
mnemonic (StoreObject a) = codes "STP"
mnemonic (LoadIndexed r) = codes "LDX"
mnemonic (StoreIndexed r) = codes "STX"
mnemonic (LoadBlock r n) = codes "LDB"
mnemonic (StoreBlock r n) = codes "STB"
mnemonic (Copy t s n) = codes "CPY"
mnemonic Negate = codes "NEG"
mnemonic Absolute = codes "ABS"
mnemonic Add = codes "ADD"
mnemonic Subtract = codes "SUB"
mnemonic Multiply = codes "MUL"
mnemonic Divide = codes "DIV"
mnemonic Modulo = codes "MOD"
mnemonic Remainder = codes "REM"
mnemonic CheckRange = codes "CHK"
mnemonic Equal = codes "EQ"
mnemonic NotEqual = codes "NE"
mnemonic Less = codes "LT"
mnemonic LessOrEqual = codes "LE"
mnemonic Greater = codes "GT"
mnemonic GreaterOrEqual = codes "GE"
mnemonic And = codes "AND"
mnemonic Or = codes "OR"
mnemonic ExclusiveOr = codes "XOR"
mnemonic Not = codes "NOT"
mnemonic (Jump a) = codes "JMP"
mnemonic (JumpIfZero a) = codes "JZ"
mnemonic (JumpIfNotZero a) = codes "JNZ"
mnemonic (Call a) = codes "CALL"
mnemonic (ProtectedCall a) = codes "PCALL"
mnemonic (EntryCall a) = codes "ECALL"
mnemonic Return = codes "RET"
mnemonic Raise = codes "RAISE"
mnemonic CheckBlocking = codes "BLK"
mnemonic DelayUntil = codes "DLY"
mnemonic (PutLine a) = codes "PUT"
mnemonic ReadInput = codes "READ"
mnemonic Clock = codes "CLK"

-- a word and a number
abbrev pub field : List ℕ → ℕ → List ℕ
field word n = word ++ decimal n

-- a word and a number, or nothing where there is no number
abbrev pub optional_field : List ℕ → Option ℕ → List ℕ
optional_field word None = word ++ codes "-"
optional_field word (Some n) = field word n

-- `NAME DEPTH A K` behind the number right in 5 places
unfoldable pub operands : Instr → List ℕ
operands x = field (codes " ") x.depth ++ field (codes " ") (address_of x.operation) ++ codes " " ++ signed_decimal (constant_of x.operation) ++ codes "\n"

abbrev pub right_in_five : ℕ → List ℕ
right_in_five n = replicate (5 - length (decimal n)) 32 ++ decimal n

abbrev pub instruction_line : ℕ → Instr → List ℕ
instruction_line n x = right_in_five n ++ codes " " ++ mnemonic x.operation ++ operands x

abbrev pub exception_line : ℕ → List ℕ → List ℕ
exception_line n name = field (codes "exception ") n ++ codes " " ++ name ++ codes "\n"

abbrev pub label_line : ℕ → List ℕ → List ℕ
label_line n text = field (codes "label ") n ++ codes " " ++ text ++ codes "\n"

abbrev pub barrier_fields : Barrier → List ℕ
barrier_fields Closed = field (codes " barrier ") 0 ++ field (codes " word ") 0
barrier_fields Open = field (codes " barrier ") 1 ++ field (codes " word ") 0
barrier_fields (Word a) = field (codes " barrier ") 2 ++ field (codes " word ") a

abbrev pub object_line : ℕ → ObjectRow → List ℕ
object_line n o = field (codes "object ") n ++ field (codes " ceiling ") o.ceiling ++ optional_field (codes " entry ") o.entry ++ barrier_fields o.barrier
    ++ field (codes " size ") (length o.words) ++ codes "\n"

abbrev pub task_line : Task → List ℕ
task_line t = codes "task " ++ t.name ++ field (codes " priority ") t.priority ++ field (codes " sub ") t.subprogram ++ codes "\n"

-- the words of a frame
unfoldable pub frame_fields : Subprogram → List ℕ
frame_fields s = field (codes " params ") s.parameters ++ field (codes " results ") s.results ++ field (codes " locals ") s.locals
    ++ field (codes " stack ") s.stack ++ codes "\n"

abbrev pub subprogram_line : ℕ → Subprogram → List ℕ
subprogram_line n s = field (codes "sub ") n ++ field (codes " kind ") (kind_number s.kind) ++ optional_field (codes " object ") (object_of s.kind)
    ++ frame_fields s

abbrev pub row_line : Row → List ℕ
row_line r = field (codes "handler ") r.start ++ field (codes " ") r.end_ ++ field (codes " ") r.exception ++ field (codes " ") r.target ++ codes "\n"

abbrev pub attach_line : Attachment → List ℕ
attach_line a = field (codes "attach ") a.channel ++ field (codes " ") a.subprogram ++ codes "\n"

-- a line for each, numbered from n on
abbrev pub numbered : {X : Type 0} → (ℕ → X → List ℕ) → ℕ → List X → List ℕ
numbered line n [] = []
numbered line n (x ∷ xs) = line n x ++ numbered line (n + 1) xs

-- subprograms numbered from n on, each with the instructions up to its end, of those that stand from a place on
abbrev pub subprogram_lines : ℕ → ℕ → List Subprogram → List Instr → List ℕ
subprogram_lines n place [] instructions = []
subprogram_lines n place (s ∷ subprograms) instructions =
    (subprogram_line n s ++ numbered instruction_line place (take (s.end_ - place) instructions))
    ++ subprogram_lines (n + 1) s.end_ subprograms (drop (s.end_ - place) instructions)

abbrev pub listing_of : Sections → List ℕ
listing_of i =
    numbered exception_line 1 i.exceptions
    ++ numbered label_line 0 i.labels
    ++ numbered object_line 0 i.objects
    ++ flat_map task_line i.tasks
    ++ subprogram_lines 0 0 i.subprograms i.instructions
    ++ flat_map row_line i.rows
    ++ flat_map attach_line i.attachments
