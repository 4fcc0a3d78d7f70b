-- The bytes of small images, written out in full.
use Rattle.std.proofs.Common.{◌≡◌, [], ◌∷◌, ◌++◌, pos, negsuc, Some, None, length, take, drop, replicate, refl}
use Rattle.std.specs.Prelude.{codes}
use Rattle.image_format.specs.Bytes.{address_of, bytes_of, code_bytes, constant_of, data_bytes, half, header_bytes, instruction_bytes, name_bytes, object_bytes, opcode_of, subprogram_bytes, table_bytes, word}
use Rattle.image.specs.Sections.{Sections}
use Rattle.image.specs.declared.instruction.Operation.TheVariants as op
use Rattle.image.specs.declared.instruction.Region.TheVariants as regions
use Rattle.image.specs.declared.objects.Barrier.TheVariants as barriers
use Rattle.image.specs.declared.subprograms.Kind.TheVariants.{EntryBody}
use Rattle.image_format.proofs.Images.{at, body, handled, row, sub, task, thousand}

-- the image that prints 1000
thousand_bytes : bytes_of thousand ≡
    -- magic, version, counts
    codes "ARVN" ++ 0 ∷ 1 ∷ 0 ∷ 3 ∷ 0 ∷ 1 ∷ 0 ∷ 0 ∷ 0 ∷ 1 ∷ 0 ∷ 4 ∷ 0 ∷ 0 ∷ 0 ∷ 1 ∷ 0 ∷ 0
    -- exceptions and the label
    ∷ 16 ∷ codes "CONSTRAINT_ERROR" ++ 13 ∷ codes "PROGRAM_ERROR" ++ 13 ∷ codes "STORAGE_ERROR" ++ 13 ∷ codes "TASKING_ERROR" ++ 1 ∷ codes "x"
    -- the subprogram and the task
    ++ 4 ∷ 255 ∷ 255 ∷ 0 ∷ 3 ∷ 0 ∷ 0 ∷ 0 ∷ 0 ∷ 0 ∷ 0 ∷ 0 ∷ 1 ∷ 4 ∷ codes "MAIN" ++ 15 ∷ 0 ∷ 0
    -- PUSH 1000, PUT 0, RET
    ∷ 1 ∷ 0 ∷ 0 ∷ 0 ∷ 0 ∷ 0 ∷ 0 ∷ 0 ∷ 0 ∷ 0 ∷ 0 ∷ 3 ∷ 232
    ∷ 44 ∷ 0 ∷ 1 ∷ 0 ∷ 0 ∷ 0 ∷ 0 ∷ 0 ∷ 0 ∷ 0 ∷ 0 ∷ 0 ∷ 0
    ∷ 40 ∷ 0 ∷ 0 ∷ 0 ∷ 0 ∷ 0 ∷ 0 ∷ 0 ∷ 0 ∷ 0 ∷ 0 ∷ 0 ∷ 0 ∷ []
unfolding half word opcode_of address_of constant_of header_bytes name_bytes data_bytes table_bytes code_bytes
thousand_bytes = refl

-- the image with a handler of interrupts
handled_bytes : bytes_of handled ≡
    -- magic, version, counts, the ninth of attachments
    codes "ARVN" ++ 0 ∷ 2 ∷ 0 ∷ 2 ∷ 0 ∷ 2 ∷ 0 ∷ 1 ∷ 0 ∷ 1 ∷ 0 ∷ 4 ∷ 0 ∷ 0 ∷ 0 ∷ 0 ∷ 0 ∷ 0 ∷ 0 ∷ 1
    -- exceptions
    ∷ 16 ∷ codes "CONSTRAINT_ERROR" ++ 13 ∷ codes "PROGRAM_ERROR" ++ 13 ∷ codes "STORAGE_ERROR" ++ 13 ∷ codes "TASKING_ERROR"
    -- the object
    ++ 31 ∷ 255 ∷ 255 ∷ 0 ∷ 0 ∷ 0 ∷ 0 ∷ 0
    -- main's body and the handler
    ∷ 4 ∷ 255 ∷ 255 ∷ 0 ∷ 1 ∷ 0 ∷ 0 ∷ 0 ∷ 0 ∷ 0 ∷ 0 ∷ 0 ∷ 0
    ∷ 1 ∷ 0 ∷ 0 ∷ 0 ∷ 2 ∷ 0 ∷ 0 ∷ 0 ∷ 0 ∷ 0 ∷ 0 ∷ 0 ∷ 0
    -- the task and the attachment
    ∷ 4 ∷ codes "MAIN" ++ 15 ∷ 0 ∷ 0 ∷ 3 ∷ 0 ∷ 1
    -- RET, RET
    ∷ 40 ∷ 0 ∷ 0 ∷ 0 ∷ 0 ∷ 0 ∷ 0 ∷ 0 ∷ 0 ∷ 0 ∷ 0 ∷ 0 ∷ 0
    ∷ 40 ∷ 0 ∷ 0 ∷ 0 ∷ 0 ∷ 0 ∷ 0 ∷ 0 ∷ 0 ∷ 0 ∷ 0 ∷ 0 ∷ 0 ∷ []
unfolding half word opcode_of address_of constant_of header_bytes name_bytes data_bytes table_bytes code_bytes
handled_bytes = refl

handled_length : length (bytes_of handled) ≡ 154
unfolding half word opcode_of address_of constant_of header_bytes name_bytes data_bytes table_bytes code_bytes
handled_length = refl

-- PUSH -1, in two's complement
push_minus_one : instruction_bytes (at 0 (op.Push (negsuc 0))) ≡ 1 ∷ 0 ∷ 0 ∷ 0 ∷ 0 ∷ 255 ∷ 255 ∷ 255 ∷ 255 ∷ 255 ∷ 255 ∷ 255 ∷ 255 ∷ []
unfolding half word opcode_of address_of constant_of header_bytes name_bytes data_bytes table_bytes code_bytes
push_minus_one = refl

-- CPY of 258 plain words to the object, at depth 2
copy_258 : instruction_bytes (at 2 (op.Copy regions.Object regions.Plain 258)) ≡ 14 ∷ 0 ∷ 2 ∷ 0 ∷ 7 ∷ 0 ∷ 0 ∷ 0 ∷ 0 ∷ 0 ∷ 0 ∷ 1 ∷ 2 ∷ []
unfolding half word opcode_of address_of constant_of header_bytes name_bytes data_bytes table_bytes code_bytes
copy_258 = refl

-- the last operation
clock_bytes : instruction_bytes (at 0 op.Clock) ≡ 46 ∷ 0 ∷ 0 ∷ 0 ∷ 0 ∷ 0 ∷ 0 ∷ 0 ∷ 0 ∷ 0 ∷ 0 ∷ 0 ∷ 0 ∷ []
unfolding half word opcode_of address_of constant_of header_bytes name_bytes data_bytes table_bytes code_bytes
clock_bytes = refl

-- an object with an entry that word 0 opens, and one without an entry
entry_object : object_bytes (record { ceiling = 20; entry = Some 3; barrier = barriers.Word 0; words = negsuc 1 ∷ [] }) ≡ 20 ∷ 0 ∷ 3 ∷ 2 ∷ 0 ∷ 0 ∷ 0 ∷ 1 ∷ 255 ∷ 255 ∷ 255 ∷ 255 ∷ 255 ∷ 255 ∷ 255 ∷ 254 ∷ []
unfolding half word opcode_of address_of constant_of header_bytes name_bytes data_bytes table_bytes code_bytes
entry_object = refl

plain_object : object_bytes (record { ceiling = 20; entry = None; barrier = barriers.Closed; words = [] }) ≡ 20 ∷ 255 ∷ 255 ∷ 0 ∷ 0 ∷ 0 ∷ 0 ∷ 0 ∷ []
unfolding half word opcode_of address_of constant_of header_bytes name_bytes data_bytes table_bytes code_bytes
plain_object = refl

-- the body of an entry of object 2
entry_body : subprogram_bytes (sub (EntryBody 2) 300 1 0 4 5) ≡ 3 ∷ 0 ∷ 2 ∷ 1 ∷ 44 ∷ 0 ∷ 1 ∷ 0 ∷ 0 ∷ 0 ∷ 4 ∷ 0 ∷ 5 ∷ []
unfolding half word opcode_of address_of constant_of header_bytes name_bytes data_bytes table_bytes code_bytes
entry_body = refl

-- a different count for each section: the order of the counts
abbrev counted : Sections
counted = record {
  exceptions = replicate 5 [];
  labels = replicate 7 [];
  plain_words = replicate 8 (pos 0);
  objects = replicate 3 (record { ceiling = 0; entry = None; barrier = barriers.Closed; words = [] });
  subprograms = replicate 2 (body 1 0 0);
  tasks = replicate 4 (task [] 0 0);
  rows = replicate 6 (row 0 1 0 0);
  attachments = [];
  instructions = replicate 1 (at 0 op.Return);
}

counts : take 16 (drop 6 (bytes_of counted)) ≡ 0 ∷ 1 ∷ 0 ∷ 2 ∷ 0 ∷ 3 ∷ 0 ∷ 4 ∷ 0 ∷ 5 ∷ 0 ∷ 6 ∷ 0 ∷ 7 ∷ 0 ∷ 8 ∷ []
unfolding half word opcode_of address_of constant_of header_bytes name_bytes data_bytes table_bytes code_bytes
counts = refl

-- a plain word, a handler row and an instruction follow in this order
abbrev ordered : Sections
ordered = record { exceptions = []; labels = []; plain_words = pos 9 ∷ []; objects = []; subprograms = []; tasks = []; rows = row 1 2 3 4 ∷ []; attachments = []; instructions = at 0 op.Return ∷ [] }

after_header : drop 22 (bytes_of ordered) ≡ 0 ∷ 0 ∷ 0 ∷ 0 ∷ 0 ∷ 0 ∷ 0 ∷ 9 ∷ 0 ∷ 1 ∷ 0 ∷ 2 ∷ 0 ∷ 3 ∷ 0 ∷ 4 ∷ 40 ∷ replicate 12 0
unfolding half word opcode_of address_of constant_of header_bytes name_bytes data_bytes table_bytes code_bytes
after_header = refl
