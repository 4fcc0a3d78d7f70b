-- Listings of small images, and lines of each kind.
use Rattle.std.proofs.Common.{◌≡◌, [], ◌∷◌, ◌++◌, pos, negsuc, replicate, Some, None, refl}
use Rattle.std.specs.Prelude.{codes}
use Rattle.std.specs.Fmt.{digits}
use Rattle.base.specs.Names.{predefined}
use Rattle.image_format.specs.Bytes.{address_of, constant_of}
use Rattle.image_format.specs.Listing.{attach_line, frame_fields, instruction_line, listing_of, mnemonic, object_line, operands, row_line, subprogram_line}
use Rattle.image.specs.Sections.{Sections}
use Rattle.image.specs.declared.instruction.Operation.TheVariants as op
use Rattle.image.specs.declared.instruction.Region.TheVariants as regions
use Rattle.image.specs.declared.objects.Barrier.TheVariants as barriers
use Rattle.image.specs.declared.subprograms.Kind.TheVariants.{EntryBody, Plain, TaskBody}
use Rattle.image_format.proofs.Images.{at, attached, body, handled, row, sub, task, thousand}

-- the image of a single return
abbrev returning : Sections
returning = record { exceptions = predefined; labels = []; plain_words = []; objects = []; subprograms = body 1 0 0 ∷ []; tasks = task (codes "MAIN") 15 0 ∷ []; rows = []; attachments = []; instructions = at 0 op.Return ∷ [] }

returning_listed : listing_of returning ≡
    codes "exception 1 CONSTRAINT_ERROR\n"
    ++ codes "exception 2 PROGRAM_ERROR\n"
    ++ codes "exception 3 STORAGE_ERROR\n"
    ++ codes "exception 4 TASKING_ERROR\n"
    ++ codes "task MAIN priority 15 sub 0\n"
    ++ codes "sub 0 kind 4 object - params 0 results 0 locals 0 stack 0\n"
    ++ codes "    0 RET 0 0 0\n"
unfolding digits mnemonic operands frame_fields address_of constant_of
returning_listed = refl

-- the image that prints 1000
thousand_listed : listing_of thousand ≡
    codes "exception 1 CONSTRAINT_ERROR\n"
    ++ codes "exception 2 PROGRAM_ERROR\n"
    ++ codes "exception 3 STORAGE_ERROR\n"
    ++ codes "exception 4 TASKING_ERROR\n"
    ++ codes "label 0 x\n"
    ++ codes "task MAIN priority 15 sub 0\n"
    ++ codes "sub 0 kind 4 object - params 0 results 0 locals 0 stack 1\n"
    ++ codes "    0 PUSH 0 0 1000\n"
    ++ codes "    1 PUT 1 0 0\n"
    ++ codes "    2 RET 0 0 0\n"
unfolding digits mnemonic operands frame_fields address_of constant_of
thousand_listed = refl

-- the image with a handler of interrupts
handled_listed : listing_of handled ≡
    codes "exception 1 CONSTRAINT_ERROR\n"
    ++ codes "exception 2 PROGRAM_ERROR\n"
    ++ codes "exception 3 STORAGE_ERROR\n"
    ++ codes "exception 4 TASKING_ERROR\n"
    ++ codes "object 0 ceiling 31 entry - barrier 0 word 0 size 0\n"
    ++ codes "task MAIN priority 15 sub 0\n"
    ++ codes "sub 0 kind 4 object - params 0 results 0 locals 0 stack 0\n"
    ++ codes "    0 RET 0 0 0\n"
    ++ codes "sub 1 kind 1 object 0 params 0 results 0 locals 0 stack 0\n"
    ++ codes "    1 RET 0 0 0\n"
    ++ codes "attach 3 1\n"
unfolding digits mnemonic operands frame_fields address_of constant_of
handled_listed = refl

-- two subprograms, a handler row; numbers of instructions go on
abbrev two_bodies : Sections
two_bodies = record {
  exceptions = [];
  labels = [];
  plain_words = [];
  objects = [];
  subprograms = sub Plain 2 1 0 1 1 ∷ sub TaskBody 3 0 0 0 0 ∷ [];
  tasks = [];
  rows = row 0 1 0 1 ∷ [];
  attachments = [];
  instructions = at 0 (op.LoadLocal 0) ∷ at 1 op.Drop ∷ at 0 op.Return ∷ [];
}

two_bodies_listed : listing_of two_bodies ≡
    codes "sub 0 kind 0 object - params 1 results 0 locals 1 stack 1\n"
    ++ codes "    0 LDL 0 0 0\n"
    ++ codes "    1 DROP 1 0 0\n"
    ++ codes "sub 1 kind 4 object - params 0 results 0 locals 0 stack 0\n"
    ++ codes "    2 RET 0 0 0\n"
    ++ codes "handler 0 1 0 1\n"
unfolding digits mnemonic operands frame_fields address_of constant_of
two_bodies_listed = refl

entry_object : object_line 3 (record { ceiling = 20; entry = Some 5; barrier = barriers.Word 7; words = replicate 12 (pos 0) }) ≡ codes "object 3 ceiling 20 entry 5 barrier 2 word 7 size 12\n"
unfolding digits
entry_object = refl

plain_object : object_line 0 (record { ceiling = 31; entry = None; barrier = barriers.Closed; words = [] }) ≡ codes "object 0 ceiling 31 entry - barrier 0 word 0 size 0\n"
unfolding digits
plain_object = refl

open_object : object_line 1 (record { ceiling = 0; entry = Some 0; barrier = barriers.Open; words = pos 1 ∷ [] }) ≡ codes "object 1 ceiling 0 entry 0 barrier 1 word 0 size 1\n"
unfolding digits
open_object = refl

entry_body : subprogram_line 10 (sub (EntryBody 2) 300 1 0 4 5) ≡ codes "sub 10 kind 3 object 2 params 1 results 0 locals 4 stack 5\n"
unfolding digits frame_fields
entry_body = refl

-- numbers are right in 5 places; a copy has its regions in the first operand, its length in the second
push_least : instruction_line 65534 (at 12 (op.Push (negsuc 9223372036854775807))) ≡ codes "65534 PUSH 12 0 -9223372036854775808\n"
unfolding digits mnemonic operands address_of constant_of
push_least = refl

copy_to_object : instruction_line 123 (at 2 (op.Copy regions.Object regions.Plain 258)) ≡ codes "  123 CPY 2 7 258\n"
unfolding digits mnemonic operands address_of constant_of
copy_to_object = refl

jump_listed : instruction_line 7 (at 0 (op.JumpIfNotZero 4096)) ≡ codes "    7 JNZ 0 4096 0\n"
unfolding digits mnemonic operands address_of constant_of
jump_listed = refl

handler_listed : row_line (row 3 8 5 14) ≡ codes "handler 3 8 5 14\n"
unfolding digits
handler_listed = refl

attachment_listed : attach_line (attached 8 12) ≡ codes "attach 8 12\n"
unfolding digits
attachment_listed = refl
