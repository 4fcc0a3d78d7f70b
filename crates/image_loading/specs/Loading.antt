-- Which rule the bytes of an image break, and at which byte (docs/FORMATS.md, "Well-formed images"): the first byte of the field that breaks it,
-- and where a rule speaks of several fields, of the one that stands last. The rules themselves are those of specs/Rules.
use Rattle.std.specs.Prelude.{ℕ, ◌+◌, ◌-◌, ◌*◌, List, [], ◌∷◌, ◌++◌, length, min, take, sum_by, Bool, true, ◌&&◌, ◌||◌, not, Option, Some, None, is_some, unwrap_or, nat_eq, nat_le, nat_lt, slice_get, bytes_eq, if◌then◌else◌}
use Rattle.std.specs.List.{Contains}
use Rattle.handlers.specs.Nesting.{crosses_one}
use Rattle.handlers.specs.declared.rows.Row.{Row}
use Rattle.base.specs.Names.{is_label, is_name, predefined}
use Rattle.base.specs.declared.limits.TheConstants.{CEILING, CHANNELS, EXCEPTIONS, FRAME_WORDS, INSTRUCTIONS, LABELS, NAME_LIMIT, OBJECTS, ROWS, SUBPROGRAMS, TASK_PRIORITY, TASKS, WORDS}
use Rattle.base.specs.declared.faults.TheConstants.{DEPTHS_DISAGREE, JUMP_OUTSIDE, NAMED_THING_MISSING, OPERAND_OUT_OF_RANGE, SECTION_CUT_SHORT, STRAY_BYTES, TABLES_DISAGREE, WRONG_HEADER}
use Rattle.image.specs.declared.fault.ImageFault.{ImageFault}
use Rattle.image_format.specs.Bytes.{address_of, constant_of, kind_number}
use Rattle.image_loading.specs.Decoding.{instruction_of, object_from, operation_of, sections_of, subprogram_from}
use Rattle.image_loading.specs.FaultOrder.{ImageFaults, after, fault_at, first_of, rule}
use Rattle.image.specs.ObjectTable.{ObjectRow}
use Rattle.image.specs.Operations.{called, goes_on, jump_target, taken_by}
use Rattle.image_loading.specs.RawRows.{RawObjectRow, RawTaskRow}
use Rattle.image_loading.specs.Reading.{Raw, read_image}
use Rattle.image.specs.Rules.{covers_places, depth_after, has_depth, has_effect, has_ends, has_entry, has_object, has_operands, has_region, is_barrier, is_closed, is_closed_barrier, is_entry_of_object, is_return, is_row_within, is_task_body, is_within, jumps_within, may_handle, names_things, none_or}
use Rattle.image.specs.Scalars.{are_equal}
use Rattle.image.specs.Sections.{Sections, first_place, holder, object_of, writes_object}
use Rattle.image.specs.declared.attachments.Attachment.{Attachment}
use Rattle.image.specs.declared.instruction.Instr.{Instr}
use Rattle.image.specs.declared.instruction.Operation.{Operation}
use Rattle.image.specs.declared.instruction.Operation.TheVariants.{LoadObject, StoreObject}
use Rattle.image.specs.declared.instruction.Region.TheVariants as regions
use Rattle.image.specs.declared.objects.Barrier.{Barrier}
use Rattle.image.specs.declared.objects.Barrier.TheVariants.{Closed, Open, Word}
use Rattle.image_loading.specs.declared.raw_sections.RawInstruction.{RawInstruction}
use Rattle.image_loading.specs.declared.raw_sections.RawSubprogram.{RawSubprogram}
use Rattle.image.specs.declared.subprograms.Kind.{Kind}
use Rattle.image.specs.declared.subprograms.Kind.TheVariants.{EntryBody}
use Rattle.image.specs.declared.subprograms.Subprogram.{Subprogram}

-- Where elements end and sections begin

abbrev pub behind_text : ℕ → List ℕ → ℕ
behind_text byte text = after byte (length text + 1)

abbrev pub behind_object : ℕ → RawObjectRow → ℕ
behind_object byte o = after (after byte 8) (8 * length o.words)

abbrev pub behind_task : ℕ → RawTaskRow → ℕ
behind_task byte t = after byte (length t.name + 4)

abbrev pub behind_all : {X : Type 0} → (ℕ → X → ℕ) → ℕ → List X → ℕ
behind_all behind byte [] = byte
behind_all behind byte (x ∷ xs) = behind_all behind (behind byte x) xs

-- behind the counts, of which version 2 has one more
abbrev pub names_start : Raw → ℕ
names_start r = if nat_eq r.version 2 then 24 else 22

abbrev pub labels_start : Raw → ℕ
labels_start r = behind_all behind_text (names_start r) r.exceptions

abbrev pub words_start : Raw → ℕ
words_start r = behind_all behind_text (labels_start r) r.labels

abbrev pub objects_start : Raw → ℕ
objects_start r = after (words_start r) (8 * length r.plain_words)

abbrev pub subprograms_start : Raw → ℕ
subprograms_start r = behind_all behind_object (objects_start r) r.objects

abbrev pub tasks_start : Raw → ℕ
tasks_start r = after (subprograms_start r) (13 * length r.subprograms)

abbrev pub rows_start : Raw → ℕ
rows_start r = behind_all behind_task (tasks_start r) r.tasks

abbrev pub attachments_start : Raw → ℕ
attachments_start r = after (rows_start r) (8 * length r.rows)

abbrev pub code_start : Raw → ℕ
code_start r = after (attachments_start r) (3 * length r.attachments)

-- the faults of each element, by its number and the byte where it begins
abbrev pub each : {X : Type 0} → (ℕ → X → ℕ) → (ℕ → ℕ → X → ImageFaults) → ℕ → ℕ → List X → ImageFaults
each behind faults number byte [] = []
each behind faults number byte (x ∷ xs) = faults number byte x ++ each behind faults (number + 1) (behind byte x) xs

-- 47: the counts within their limits; the words together, at the size of the last object, or at their count where there is none
abbrev pub last_size_byte : ℕ → ℕ → List RawObjectRow → ℕ
last_size_byte last byte [] = last
last_size_byte last byte (o ∷ objects) = last_size_byte (after byte 6) (behind_object byte o) objects

abbrev pub few_words : Sections → Bool
few_words i = nat_le (length i.plain_words + sum_by (λ o. length o.words) i.objects) WORDS

abbrev pub count_rule : ℕ → ℕ → ℕ → ℕ → ImageFaults
count_rule byte least count most = rule TABLES_DISAGREE byte (not (is_within least count most))

abbrev pub count_faults : Sections → ImageFaults
count_faults i =
    count_rule 6 1 (length i.instructions) INSTRUCTIONS
    ++ count_rule 8 1 (length i.subprograms) SUBPROGRAMS
    ++ count_rule 10 0 (length i.objects) OBJECTS
    ++ count_rule 12 1 (length i.tasks) TASKS

abbrev pub text_count_faults : Sections → ImageFaults
text_count_faults i =
    count_rule 14 4 (length i.exceptions) EXCEPTIONS ++ count_rule 16 0 (length i.rows) ROWS ++ count_rule 18 0 (length i.labels) LABELS

-- version 2 has attachments
abbrev pub attached_count_faults : Raw → ImageFaults
attached_count_faults r = rule TABLES_DISAGREE 22 (nat_eq r.version 2 && not (is_within 1 (length r.attachments) CHANNELS))

abbrev pub word_faults : Raw → Sections → ImageFaults
word_faults r i = rule TABLES_DISAGREE (last_size_byte 20 (objects_start r) r.objects) (not (few_words i))

-- 47: names and labels, at the length where it is wrong, else at the first character; the first four exceptions are the predefined ones
abbrev pub text_byte : ℕ → List ℕ → ℕ
text_byte byte text = if is_within 1 (length text) NAME_LIMIT then after byte 1 else byte

abbrev pub is_exception : ℕ → List ℕ → Bool
is_exception number name = is_name name && none_or (slice_get predefined number) (λ p. bytes_eq p name)

abbrev pub exception_faults : ℕ → ℕ → List ℕ → ImageFaults
exception_faults number byte name = rule TABLES_DISAGREE (text_byte byte name) (not (is_exception number name))

abbrev pub label_faults : ℕ → ℕ → List ℕ → ImageFaults
label_faults number byte label = rule TABLES_DISAGREE (text_byte byte label) (not (is_label label))

-- Objects. 45: the entry is a subprogram. 47: the ceiling; the entry is of kind 3 and of its object, at the subprogram; the barrier

abbrev pub entry_body_faults : ℕ → ℕ → Kind → ImageFaults
entry_body_faults byte number (EntryBody o) = rule TABLES_DISAGREE (after byte 1) (not (nat_eq o number))
entry_body_faults byte number _ = rule TABLES_DISAGREE byte true

abbrev pub entry_called_faults : ℕ → ℕ → Option Subprogram → ImageFaults
entry_called_faults byte number None = []
entry_called_faults byte number (Some s) = entry_body_faults byte number s.kind

abbrev pub entry_faults : Sections → ℕ → ℕ → Option ℕ → ImageFaults
entry_faults i subprograms number None = []
entry_faults i subprograms number (Some n) = entry_called_faults (after subprograms (13 * n)) number (slice_get i.subprograms n)

abbrev pub barrier_number : Barrier → ℕ
barrier_number Closed = 0
barrier_number Open = 1
barrier_number (Word word) = 2

abbrev pub word_of_barrier : Barrier → ℕ
word_of_barrier Closed = 0
word_of_barrier Open = 0
word_of_barrier (Word word) = word

-- an object without entry has barrier 0
abbrev pub has_barrier : ObjectRow → ℕ → Bool
has_barrier o number = nat_eq (barrier_number o.barrier) number && (is_some o.entry || is_closed_barrier o.barrier)

abbrev pub barrier_faults : ℕ → RawObjectRow → ObjectRow → ImageFaults
barrier_faults byte raw o =
    rule TABLES_DISAGREE (after byte 3) (not (has_barrier o raw.barrier))
    ++ rule TABLES_DISAGREE (after byte 4) (not (nat_eq (word_of_barrier o.barrier) raw.barrier_word))
    ++ rule TABLES_DISAGREE (after byte 6) (not (is_barrier o o.barrier))

abbrev pub ceiling_faults : Sections → ℕ → RawObjectRow → ImageFaults
ceiling_faults i byte raw =
    rule TABLES_DISAGREE byte (not (nat_le raw.ceiling CEILING)) ++ rule NAMED_THING_MISSING (after byte 1) (not (has_entry i (object_from raw)))

abbrev pub object_faults : Sections → ℕ → ℕ → ℕ → RawObjectRow → ImageFaults
object_faults i subprograms number byte raw =
    ceiling_faults i byte raw
    ++ entry_faults i subprograms number (object_from raw).entry
    ++ barrier_faults byte raw (object_from raw)

-- Subprograms. 47: the kind, whether it has an object, that it is its object's entry, the end, the sizes. 45: the object is there.
-- 44: the last instruction, at its opcode. 46: the first instruction has depth 0

abbrev pub object_of_kind : Kind → ℕ
object_of_kind kind = unwrap_or (object_of kind) 65535

-- kinds 1 to 3 name an object, the others none
abbrev pub names_object : Kind → ℕ → Bool
names_object kind object = nat_eq (object_of_kind kind) object && not (is_some (object_of kind) && nat_eq object 65535)

-- the end is behind the end before it, and the last one is the number of instructions
abbrev pub is_end : Sections → ℕ → Subprogram → Bool
is_end i number s =
    nat_lt (first_place i number) s.end_ && (not (nat_eq (number + 1) (length i.subprograms)) || nat_eq s.end_ (length i.instructions))

abbrev pub kind_faults : Sections → ℕ → ℕ → RawSubprogram → Subprogram → ImageFaults
kind_faults i number byte raw s =
    rule TABLES_DISAGREE byte (not (nat_eq (kind_number s.kind) raw.kind))
    ++ rule NAMED_THING_MISSING (after byte 1) (not (nat_eq raw.object 65535 || has_object i s))
    ++ rule TABLES_DISAGREE (after byte 1) (not (names_object s.kind raw.object && is_entry_of_object i number s.kind))

abbrev pub size_faults : ℕ → Subprogram → ImageFaults
size_faults byte s =
    rule TABLES_DISAGREE (after byte 5) (is_task_body s.kind && not (nat_eq s.parameters 0))
    ++ rule TABLES_DISAGREE (after byte 7) (is_task_body s.kind && not (nat_eq s.results 0))
    ++ rule TABLES_DISAGREE (after byte 9) (not (nat_le s.parameters s.locals))
    ++ rule TABLES_DISAGREE (after byte 11) (not (nat_le (s.locals + s.stack) FRAME_WORDS))

-- here and below `ordered` says that the ends are in order; else no subprogram holds an instruction
abbrev pub body_faults : Sections → Bool → ℕ → ℕ → ℕ → Subprogram → ImageFaults
body_faults i ordered code number byte s =
    rule TABLES_DISAGREE (after byte 3) (not (is_end i number s))
    ++ rule JUMP_OUTSIDE (after code (13 * (s.end_ - 1))) (ordered && not (is_closed i s))
    ++ rule DEPTHS_DISAGREE (after code (13 * first_place i number + 1)) (ordered && not (has_depth i (first_place i number) 0))

abbrev pub decoded_faults : Sections → Bool → ℕ → ℕ → ℕ → RawSubprogram → Subprogram → ImageFaults
decoded_faults i ordered code number byte raw s = kind_faults i number byte raw s ++ size_faults byte s ++ body_faults i ordered code number byte s

abbrev pub subprogram_faults : Sections → Bool → ℕ → ℕ → ℕ → RawSubprogram → ImageFaults
subprogram_faults i ordered code number byte raw = decoded_faults i ordered code number byte raw (subprogram_from raw)

-- Tasks. 47: name, priority, and that the subprogram is a task's body. 45: the subprogram is there

abbrev pub task_body_faults : Sections → ℕ → ℕ → ImageFaults
task_body_faults i byte n =
    rule NAMED_THING_MISSING byte (not (nat_lt n (length i.subprograms)))
    ++ rule TABLES_DISAGREE byte (not (none_or (slice_get i.subprograms n) (λ s. is_task_body s.kind)))

abbrev pub task_faults : Sections → ℕ → ℕ → RawTaskRow → ImageFaults
task_faults i number byte t =
    rule TABLES_DISAGREE (text_byte byte t.name) (not (is_name t.name))
    ++ rule TABLES_DISAGREE (after byte (length t.name + 1)) (not (nat_le t.priority TASK_PRIORITY))
    ++ task_body_faults i (after byte (length t.name + 2)) t.subprogram

-- Handler rows. 44: a region that isn't empty, and lies with the target in one subprogram. 46: the target has depth 1. 47: the exception is
-- there; no region crosses the one of a row before it

abbrev pub region_faults : Sections → ℕ → Row → ImageFaults
region_faults i byte row =
    rule JUMP_OUTSIDE (after byte 2) (not (covers_places row)) ++ rule TABLES_DISAGREE (after byte 4) (not (nat_le row.exception (length i.exceptions)))

abbrev pub crossing_faults : List Row → ℕ → ℕ → Row → ImageFaults
crossing_faults rows number byte row = rule TABLES_DISAGREE (after byte 2) (crosses_one (take number rows) row)

abbrev pub target_faults : Sections → Bool → ℕ → ℕ → Row → ImageFaults
target_faults i ordered code byte row =
    rule JUMP_OUTSIDE (after byte 6) (ordered && not (is_row_within i row))
    ++ rule DEPTHS_DISAGREE (after code (13 * row.target + 1)) (ordered && not (has_depth i row.target 1))

abbrev pub row_faults : Sections → Bool → ℕ → ℕ → ℕ → Row → ImageFaults
row_faults i ordered code number byte row = region_faults i byte row ++ target_faults i ordered code byte row

-- Attachments. 47: the channel, in its range and above the last one; the subprogram may handle interrupts. 45: it is there

abbrev pub handler_faults : Sections → ℕ → ℕ → ImageFaults
handler_faults i byte n =
    rule NAMED_THING_MISSING byte (not (nat_lt n (length i.subprograms))) ++ rule TABLES_DISAGREE byte (not (none_or (called i n) (may_handle i)))

abbrev pub attachment_faults : Sections → (last : ℕ) → ℕ → Attachment → ImageFaults
attachment_faults i last byte a =
    rule TABLES_DISAGREE byte (not (nat_lt last a.channel && nat_le a.channel CHANNELS)) ++ handler_faults i (after byte 1) a.subprogram

abbrev pub attached_faults : Sections → (last : ℕ) → ℕ → List Attachment → ImageFaults
attached_faults i last byte [] = []
attached_faults i last byte (a ∷ rest) = attachment_faults i last byte a ++ attached_faults i a.channel (after byte 3) rest

-- Instructions. 43: the opcode; the operands that are named, and 0 where none is, which is what the operation has in bytes.
-- 44: the jump's target. 45: what is named, at the operand; at the opcode where a word of the object is used outside it.
-- 46: the depth, of the one of two instructions that stands later

abbrev pub operand_faults : ℕ → RawInstruction → Option Operation → ImageFaults
operand_faults byte x None = rule OPERAND_OUT_OF_RANGE byte true
operand_faults byte x (Some operation) =
    rule OPERAND_OUT_OF_RANGE (after byte 3) (not (nat_eq (address_of operation) x.address))
    ++ rule OPERAND_OUT_OF_RANGE (after byte 5) (not (are_equal (constant_of operation) x.constant && has_operands operation))

abbrev pub instruction_faults : ℕ → ℕ → RawInstruction → ImageFaults
instruction_faults place byte x = operand_faults byte x (operation_of x)

-- a word of the object is used only in a subprogram that may do so
abbrev pub may_use_object : Subprogram → Operation → Bool
may_use_object s (LoadObject a) = has_region s regions.Object
may_use_object s (StoreObject a) = writes_object s.kind
may_use_object s _ = true

-- at a jump back or to itself its own depth stands later, else its target's
abbrev pub jump_faults : Sections → ℕ → ℕ → ℕ → ℕ → Option ℕ → ImageFaults
jump_faults i code place byte depth None = []
jump_faults i code place byte depth (Some a) = rule DEPTHS_DISAGREE (if nat_lt place a then after code (13 * a + 1) else after byte 1)
    (not (has_depth i a depth))

abbrev pub effect_faults : Sections → ℕ → ℕ → ℕ → Instr → Subprogram → ImageFaults
effect_faults i code place byte x s =
    if nat_le (taken_by i s.results x.operation) x.depth
    then (
    rule DEPTHS_DISAGREE (after byte 1) (not (nat_le (depth_after i s x) s.stack))
    ++ rule DEPTHS_DISAGREE (after byte 14) (goes_on x.operation && not (has_depth i (place + 1) (depth_after i s x)))
    ++ jump_faults i code place byte (depth_after i s x) (jump_target x.operation)
    )
    else rule DEPTHS_DISAGREE (after byte 1) true

abbrev pub operation_faults : Sections → ℕ → ℕ → ℕ → Instr → Subprogram → ImageFaults
operation_faults i code place byte x s =
    rule JUMP_OUTSIDE (after byte 3) (not (jumps_within i place x))
    ++ rule NAMED_THING_MISSING (if may_use_object s x.operation then after byte 3 else byte) (not (names_things i s x.operation))
    ++ rule DEPTHS_DISAGREE (after byte 1) (is_return x.operation && not (nat_eq x.depth s.results))
    ++ (if has_effect i x.operation then effect_faults i code place byte x s else [])

-- of an instruction without operation its own depth alone is judged
abbrev pub held_faults : Sections → ℕ → ℕ → ℕ → RawInstruction → Subprogram → ImageFaults
held_faults i code place byte x s =
    rule DEPTHS_DISAGREE (after byte 1) (not (nat_le x.depth s.stack))
    ++ (if is_some (operation_of x) then operation_faults i code place byte (instruction_of x) s else [])

abbrev pub code_faults : Sections → ℕ → ℕ → ℕ → RawInstruction → Option Subprogram → ImageFaults
code_faults i code place byte x None = []
code_faults i code place byte x (Some s) = held_faults i code place byte x s

-- by the subprogram that holds the place
abbrev pub place_faults : Sections → ℕ → ℕ → ℕ → RawInstruction → ImageFaults
place_faults i code place byte x = code_faults i code place byte x (holder i.subprograms place)

abbrev pub behind_row : {X : Type 0} → ℕ → ℕ → X → ℕ
behind_row size byte x = after byte size

-- 43 to 47, all sections; the crossing of regions stands apart
abbrev pub head_faults : Raw → Sections → ImageFaults
head_faults r i = count_faults i ++ text_count_faults i ++ word_faults r i

abbrev pub text_faults : Raw → ImageFaults
text_faults r = each behind_text exception_faults 0 (names_start r) r.exceptions ++ each behind_text label_faults 0 (labels_start r) r.labels

abbrev pub table_faults : Raw → Sections → ImageFaults
table_faults r i =
    each behind_object (object_faults i (subprograms_start r)) 0 (objects_start r) r.objects
    ++ each (behind_row 13) (subprogram_faults i (has_ends i) (code_start r)) 0 (subprograms_start r) r.subprograms
    ++ each behind_task (task_faults i) 0 (tasks_start r) r.tasks

abbrev pub attachment_part_faults : Raw → Sections → ImageFaults
attachment_part_faults r i = attached_count_faults r ++ attached_faults i 0 (attachments_start r) r.attachments

abbrev pub code_part_faults : Raw → Sections → ImageFaults
code_part_faults r i =
    each (behind_row 8) (row_faults i (has_ends i) (code_start r)) 0 (rows_start r) r.rows
    ++ each (behind_row 13) instruction_faults 0 (code_start r) r.instructions
    ++ (if has_ends i then each (behind_row 13) (place_faults i (code_start r)) 0 (code_start r) r.instructions else [])

abbrev pub faults_as : Raw → Sections → ImageFaults
faults_as r i = (head_faults r i ++ text_faults r) ++ (table_faults r i ++ attachment_part_faults r i) ++ code_part_faults r i

abbrev pub all_crossing_faults : Raw → ImageFaults
all_crossing_faults r = each (behind_row 8) (crossing_faults r.rows) 0 (rows_start r) r.rows

abbrev pub sections_faults : Raw → ImageFaults
sections_faults r = faults_as r (sections_of r) ++ all_crossing_faults r

-- 40: the magic and the version, as far as bytes are there
abbrev pub agrees : List ℕ → List ℕ → Bool
agrees front bytes = let n = min (length front) (length bytes) in bytes_eq (take n front) (take n bytes)

abbrev pub magic : List ℕ
magic = 65 ∷ 82 ∷ 86 ∷ 78 ∷ []

abbrev pub magic_and_version : ℕ → List ℕ
magic_and_version version = 65 ∷ 82 ∷ 86 ∷ 78 ∷ 0 ∷ version ∷ []

abbrev pub has_version : List ℕ → Bool
has_version bytes = agrees (magic_and_version 1) bytes || agrees (magic_and_version 2) bytes

abbrev pub header_faults : List ℕ → ImageFaults
header_faults bytes = rule WRONG_HEADER 0 (not (agrees magic bytes)) ++ rule WRONG_HEADER 4 (agrees magic bytes && not (has_version bytes))

-- 41: no section ends early; 42: nothing follows
abbrev pub read_faults : List ℕ → Option (Raw × List ℕ) → ImageFaults
read_faults bytes None = rule SECTION_CUT_SHORT (after 0 (length bytes)) true
read_faults bytes (Some (raw, [])) = sections_faults raw
read_faults bytes (Some (raw, b ∷ behind)) = rule STRAY_BYTES (after 0 (length bytes - length (b ∷ behind))) true

-- 40, then 41, then 42, then the others
abbrev pub unless_faulty : ImageFaults → ImageFaults → ImageFaults
unless_faulty [] others = others
unless_faulty (f ∷ fs) others = f ∷ fs

abbrev pub image_faults : List ℕ → ImageFaults
image_faults bytes = unless_faulty (header_faults bytes) (read_faults bytes (read_image bytes))

-- rule n is broken at byte p of these bytes
abbrev pub IsImageRuleBroken : ℕ → ℕ → List ℕ → Type 0
IsImageRuleBroken n p bytes = Contains (image_faults bytes) (fault_at n p)

-- the fault that is named
abbrev pub image_fault : List ℕ → Option ImageFault
image_fault bytes = first_of (image_faults bytes)
