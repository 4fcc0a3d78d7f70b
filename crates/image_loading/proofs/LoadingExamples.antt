-- The bytes of small images, read and judged by computation: the number and the byte of the fault that is named.
use Rattle.std.proofs.Common.{◌≡◌, ℕ, ◌+◌, List, [], ◌∷◌, ◌++◌, Option, Some, None, take, drop, length, replicate, refl}
use Rattle.std.specs.Prelude.{codes}
use Rattle.image_format.specs.Bytes.{address_of, bytes_of, code_bytes, constant_of, data_bytes, half, header_bytes, name_bytes, opcode_of, table_bytes, word}
use Rattle.image_loading.specs.Decoding.{operation_from, sections_of}
use Rattle.image_loading.specs.FaultOrder.{fault_at}
use Rattle.image_loading.specs.Loading.{image_fault}
use Rattle.image_loading.specs.Reading.{Raw, byte_at, half_at, read_attached_count, read_bytes, read_counts, read_image, read_instruction, read_many, read_object, read_raw, read_row, read_subprogram, read_task, read_text, read_word, word_at}
use Rattle.image.specs.Sections.{Sections}
use Rattle.image.specs.declared.fault.ImageFault.{ImageFault}
use Rattle.image_format.proofs.Images.{kept}
use Rattle.image_format.proofs.Images.{thousand}

abbrev names : List ℕ
names = 16 ∷ codes "CONSTRAINT_ERROR" ++ 13 ∷ codes "PROGRAM_ERROR" ++ 13 ∷ codes "STORAGE_ERROR" ++ 13 ∷ codes "TASKING_ERROR"

-- one RET: 115 bytes
abbrev return_alone : List ℕ
return_alone =
    codes "ARVN" ++ 0 ∷ 1 ∷ 0 ∷ 1 ∷ 0 ∷ 1 ∷ 0 ∷ 0 ∷ 0 ∷ 1 ∷ 0 ∷ 4 ∷ 0 ∷ 0 ∷ 0 ∷ 0 ∷ 0 ∷ 0 ∷ names
    ++ 4 ∷ 255 ∷ 255 ∷ 0 ∷ 1 ∷ 0 ∷ 0 ∷ 0 ∷ 0 ∷ 0 ∷ 0 ∷ 0 ∷ 0 ∷ 4 ∷ codes "MAIN" ++ 15 ∷ 0 ∷ 0 ∷ 40 ∷ replicate 12 0

-- the bytes with others in the place of as many
abbrev pub put : ℕ → List ℕ → List ℕ → List ℕ
put place others bytes = take place bytes ++ others ++ drop (place + length others) bytes

abbrev pub faulty : ℕ → ℕ → Option ImageFault
faulty number byte = Some (fault_at number byte)

length_of_it : length return_alone ≡ 115
length_of_it = refl

accepted : image_fault return_alone ≡ None
unfolding read_image read_attached_count read_counts read_raw read_many read_bytes read_text read_word read_object read_subprogram read_task read_row read_instruction byte_at half_at word_at operation_from address_of constant_of
accepted = refl

-- 40: the magic, the version, and bytes that end before it does
other_magic : image_fault (put 3 (0 ∷ []) return_alone) ≡ faulty 40 0
unfolding read_image read_attached_count read_counts read_raw read_many read_bytes read_text read_word read_object read_subprogram read_task read_row read_instruction byte_at half_at word_at operation_from address_of constant_of
other_magic = refl

other_version : image_fault (put 5 (3 ∷ []) return_alone) ≡ faulty 40 4
unfolding read_image read_attached_count read_counts read_raw read_many read_bytes read_text read_word read_object read_subprogram read_task read_row read_instruction byte_at half_at word_at operation_from address_of constant_of
other_version = refl

wrong_and_short : image_fault (65 ∷ 83 ∷ []) ≡ faulty 40 0
unfolding read_image read_attached_count read_counts read_raw read_many read_bytes read_text read_word read_object read_subprogram read_task read_row read_instruction byte_at half_at word_at operation_from address_of constant_of
wrong_and_short = refl

-- 41, 42
no_bytes : image_fault [] ≡ faulty 41 0
unfolding read_image read_attached_count read_counts read_raw read_many read_bytes read_text read_word read_object read_subprogram read_task read_row read_instruction byte_at half_at word_at operation_from address_of constant_of
no_bytes = refl

five_bytes : image_fault (take 5 return_alone) ≡ faulty 41 5
unfolding read_image read_attached_count read_counts read_raw read_many read_bytes read_text read_word read_object read_subprogram read_task read_row read_instruction byte_at half_at word_at operation_from address_of constant_of
five_bytes = refl

last_byte_missing : image_fault (take 114 return_alone) ≡ faulty 41 114
unfolding read_image read_attached_count read_counts read_raw read_many read_bytes read_text read_word read_object read_subprogram read_task read_row read_instruction byte_at half_at word_at operation_from address_of constant_of
last_byte_missing = refl

one_more_byte : image_fault (return_alone ++ 0 ∷ []) ≡ faulty 42 115
unfolding read_image read_attached_count read_counts read_raw read_many read_bytes read_text read_word read_object read_subprogram read_task read_row read_instruction byte_at half_at word_at operation_from address_of constant_of
one_more_byte = refl

-- An image with a bit of everything, and with one or more fields changed

abbrev pub kept_bytes : List ℕ
kept_bytes = bytes_of kept

kept_length : length kept_bytes ≡ 798
unfolding read_image read_attached_count read_counts read_raw read_many read_bytes read_text read_word read_object read_subprogram read_task read_row read_instruction byte_at half_at word_at operation_from half word opcode_of address_of constant_of header_bytes name_bytes data_bytes table_bytes code_bytes
kept_length = refl

kept_accepted : image_fault kept_bytes ≡ None
unfolding read_image read_attached_count read_counts read_raw read_many read_bytes read_text read_word read_object read_subprogram read_task read_row read_instruction byte_at half_at word_at operation_from half word opcode_of address_of constant_of header_bytes name_bytes data_bytes table_bytes code_bytes
kept_accepted = refl

abbrev pub sections_read : Option (Raw × List ℕ) → Option Sections
sections_read None = None
sections_read (Some read) = Some (sections_of read.0)

kept_again : sections_read (read_image kept_bytes) ≡ Some kept
unfolding read_image read_attached_count read_counts read_raw read_many read_bytes read_text read_word read_object read_subprogram read_task read_row read_instruction byte_at half_at word_at operation_from half word opcode_of address_of constant_of header_bytes name_bytes data_bytes table_bytes code_bytes
kept_again = refl

thousand_again : sections_read (read_image (bytes_of thousand)) ≡ Some thousand
unfolding read_image read_attached_count read_counts read_raw read_many read_bytes read_text read_word read_object read_subprogram read_task read_row read_instruction byte_at half_at word_at operation_from half word opcode_of address_of constant_of header_bytes name_bytes data_bytes table_bytes code_bytes
thousand_again = refl

-- 43
opcode_0 : image_fault (put 772 (0 ∷ []) kept_bytes) ≡ faulty 43 772
unfolding read_image read_attached_count read_counts read_raw read_many read_bytes read_text read_word read_object read_subprogram read_task read_row read_instruction byte_at half_at word_at operation_from half word opcode_of address_of constant_of header_bytes name_bytes data_bytes table_bytes code_bytes
opcode_0 = refl

opcode_2f : image_fault (put 772 (47 ∷ []) kept_bytes) ≡ faulty 43 772
unfolding read_image read_attached_count read_counts read_raw read_many read_bytes read_text read_word read_object read_subprogram read_task read_row read_instruction byte_at half_at word_at operation_from half word opcode_of address_of constant_of header_bytes name_bytes data_bytes table_bytes code_bytes
opcode_2f = refl

opcode_ff : image_fault (put 772 (255 ∷ []) kept_bytes) ≡ faulty 43 772
unfolding read_image read_attached_count read_counts read_raw read_many read_bytes read_text read_word read_object read_subprogram read_task read_row read_instruction byte_at half_at word_at operation_from half word opcode_of address_of constant_of header_bytes name_bytes data_bytes table_bytes code_bytes
opcode_ff = refl

unnamed_address : image_fault (put 775 (0 ∷ 1 ∷ []) kept_bytes) ≡ faulty 43 775
unfolding read_image read_attached_count read_counts read_raw read_many read_bytes read_text read_word read_object read_subprogram read_task read_row read_instruction byte_at half_at word_at operation_from half word opcode_of address_of constant_of header_bytes name_bytes data_bytes table_bytes code_bytes
unnamed_address = refl

unnamed_constant : image_fault (put 777 (255 ∷ 255 ∷ 255 ∷ 255 ∷ 255 ∷ 255 ∷ 255 ∷ 255 ∷ []) kept_bytes) ≡ faulty 43 777
unfolding read_image read_attached_count read_counts read_raw read_many read_bytes read_text read_word read_object read_subprogram read_task read_row read_instruction byte_at half_at word_at operation_from half word opcode_of address_of constant_of header_bytes name_bytes data_bytes table_bytes code_bytes
unnamed_constant = refl

region_3 : image_fault (put 658 (0 ∷ 3 ∷ []) kept_bytes) ≡ faulty 43 658
unfolding read_image read_attached_count read_counts read_raw read_many read_bytes read_text read_word read_object read_subprogram read_task read_row read_instruction byte_at half_at word_at operation_from half word opcode_of address_of constant_of header_bytes name_bytes data_bytes table_bytes code_bytes
region_3 = refl

copy_regions_9 : image_fault (put 762 (0 ∷ 9 ∷ []) kept_bytes) ≡ faulty 43 762
unfolding read_image read_attached_count read_counts read_raw read_many read_bytes read_text read_word read_object read_subprogram read_task read_row read_instruction byte_at half_at word_at operation_from half word opcode_of address_of constant_of header_bytes name_bytes data_bytes table_bytes code_bytes
copy_regions_9 = refl

copy_regions_ffff : image_fault (put 762 (255 ∷ 255 ∷ []) kept_bytes) ≡ faulty 43 762
unfolding read_image read_attached_count read_counts read_raw read_many read_bytes read_text read_word read_object read_subprogram read_task read_row read_instruction byte_at half_at word_at operation_from half word opcode_of address_of constant_of header_bytes name_bytes data_bytes table_bytes code_bytes
copy_regions_ffff = refl

copy_of_none : image_fault (put 764 (0 ∷ 0 ∷ 0 ∷ 0 ∷ 0 ∷ 0 ∷ 0 ∷ 0 ∷ []) kept_bytes) ≡ faulty 43 764
unfolding read_image read_attached_count read_counts read_raw read_many read_bytes read_text read_word read_object read_subprogram read_task read_row read_instruction byte_at half_at word_at operation_from half word opcode_of address_of constant_of header_bytes name_bytes data_bytes table_bytes code_bytes
copy_of_none = refl

copy_too_long : image_fault (put 764 (0 ∷ 0 ∷ 0 ∷ 0 ∷ 0 ∷ 0 ∷ 32 ∷ 1 ∷ []) kept_bytes) ≡ faulty 43 764
unfolding read_image read_attached_count read_counts read_raw read_many read_bytes read_text read_word read_object read_subprogram read_task read_row read_instruction byte_at half_at word_at operation_from half word opcode_of address_of constant_of header_bytes name_bytes data_bytes table_bytes code_bytes
copy_too_long = refl

copy_of_less_than_none : image_fault (put 764 (255 ∷ 255 ∷ 255 ∷ 255 ∷ 255 ∷ 255 ∷ 255 ∷ 255 ∷ []) kept_bytes) ≡ faulty 43 764
unfolding read_image read_attached_count read_counts read_raw read_many read_bytes read_text read_word read_object read_subprogram read_task read_row read_instruction byte_at half_at word_at operation_from half word opcode_of address_of constant_of header_bytes name_bytes data_bytes table_bytes code_bytes
copy_of_less_than_none = refl

copy_of_2_to_32 : image_fault (put 764 (0 ∷ 0 ∷ 0 ∷ 1 ∷ 0 ∷ 0 ∷ 0 ∷ 1 ∷ []) kept_bytes) ≡ faulty 43 764
unfolding read_image read_attached_count read_counts read_raw read_many read_bytes read_text read_word read_object read_subprogram read_task read_row read_instruction byte_at half_at word_at operation_from half word opcode_of address_of constant_of header_bytes name_bytes data_bytes table_bytes code_bytes
copy_of_2_to_32 = refl

-- 44
jump_to_another : image_fault (put 437 (0 ∷ 21 ∷ []) kept_bytes) ≡ faulty 44 437
unfolding read_image read_attached_count read_counts read_raw read_many read_bytes read_text read_word read_object read_subprogram read_task read_row read_instruction byte_at half_at word_at operation_from half word opcode_of address_of constant_of header_bytes name_bytes data_bytes table_bytes code_bytes
jump_to_another = refl

jump_past_code : image_fault (put 437 (0 ∷ 44 ∷ []) kept_bytes) ≡ faulty 44 437
unfolding read_image read_attached_count read_counts read_raw read_many read_bytes read_text read_word read_object read_subprogram read_task read_row read_instruction byte_at half_at word_at operation_from half word opcode_of address_of constant_of header_bytes name_bytes data_bytes table_bytes code_bytes
jump_past_code = refl

-- 14 has depth 0, as is left at 16
jump_before : image_fault (put 437 (0 ∷ 14 ∷ []) kept_bytes) ≡ faulty 44 437
unfolding read_image read_attached_count read_counts read_raw read_many read_bytes read_text read_word read_object read_subprogram read_task read_row read_instruction byte_at half_at word_at operation_from half word opcode_of address_of constant_of header_bytes name_bytes data_bytes table_bytes code_bytes
jump_before = refl

falls_through : image_fault (put 603 (42 ∷ []) kept_bytes) ≡ faulty 44 603
unfolding read_image read_attached_count read_counts read_raw read_many read_bytes read_text read_word read_object read_subprogram read_task read_row read_instruction byte_at half_at word_at operation_from half word opcode_of address_of constant_of header_bytes name_bytes data_bytes table_bytes code_bytes
falls_through = refl

falls_off_code : image_fault (put 785 (42 ∷ []) kept_bytes) ≡ faulty 44 785
unfolding read_image read_attached_count read_counts read_raw read_many read_bytes read_text read_word read_object read_subprogram read_task read_row read_instruction byte_at half_at word_at operation_from half word opcode_of address_of constant_of header_bytes name_bytes data_bytes table_bytes code_bytes
falls_off_code = refl

empty_region : image_fault (put 220 (0 ∷ 21 ∷ []) kept_bytes) ≡ faulty 44 220
unfolding read_image read_attached_count read_counts read_raw read_many read_bytes read_text read_word read_object read_subprogram read_task read_row read_instruction byte_at half_at word_at operation_from half word opcode_of address_of constant_of header_bytes name_bytes data_bytes table_bytes code_bytes
empty_region = refl

region_backwards : image_fault (put 220 (0 ∷ 20 ∷ []) kept_bytes) ≡ faulty 44 220
unfolding read_image read_attached_count read_counts read_raw read_many read_bytes read_text read_word read_object read_subprogram read_task read_row read_instruction byte_at half_at word_at operation_from half word opcode_of address_of constant_of header_bytes name_bytes data_bytes table_bytes code_bytes
region_backwards = refl

region_over_two : image_fault (put 220 (0 ∷ 31 ∷ []) kept_bytes) ≡ faulty 44 224
unfolding read_image read_attached_count read_counts read_raw read_many read_bytes read_text read_word read_object read_subprogram read_task read_row read_instruction byte_at half_at word_at operation_from half word opcode_of address_of constant_of header_bytes name_bytes data_bytes table_bytes code_bytes
region_over_two = refl

region_past_code : image_fault (put 220 (0 ∷ 45 ∷ []) kept_bytes) ≡ faulty 44 224
unfolding read_image read_attached_count read_counts read_raw read_many read_bytes read_text read_word read_object read_subprogram read_task read_row read_instruction byte_at half_at word_at operation_from half word opcode_of address_of constant_of header_bytes name_bytes data_bytes table_bytes code_bytes
region_past_code = refl

target_in_another : image_fault (put 224 (0 ∷ 20 ∷ []) kept_bytes) ≡ faulty 44 224
unfolding read_image read_attached_count read_counts read_raw read_many read_bytes read_text read_word read_object read_subprogram read_task read_row read_instruction byte_at half_at word_at operation_from half word opcode_of address_of constant_of header_bytes name_bytes data_bytes table_bytes code_bytes
target_in_another = refl

target_past_code : image_fault (put 224 (0 ∷ 44 ∷ []) kept_bytes) ≡ faulty 44 224
unfolding read_image read_attached_count read_counts read_raw read_many read_bytes read_text read_word read_object read_subprogram read_task read_row read_instruction byte_at half_at word_at operation_from half word opcode_of address_of constant_of header_bytes name_bytes data_bytes table_bytes code_bytes
target_past_code = refl

-- 45
local_too_far : image_fault (put 424 (0 ∷ 1 ∷ []) kept_bytes) ≡ faulty 45 424
unfolding read_image read_attached_count read_counts read_raw read_many read_bytes read_text read_word read_object read_subprogram read_task read_row read_instruction byte_at half_at word_at operation_from half word opcode_of address_of constant_of header_bytes name_bytes data_bytes table_bytes code_bytes
local_too_far = refl

plain_too_far : image_fault (put 619 (0 ∷ 2 ∷ []) kept_bytes) ≡ faulty 45 619
unfolding read_image read_attached_count read_counts read_raw read_many read_bytes read_text read_word read_object read_subprogram read_task read_row read_instruction byte_at half_at word_at operation_from half word opcode_of address_of constant_of header_bytes name_bytes data_bytes table_bytes code_bytes
plain_too_far = refl

plain_stored_too_far : image_fault (put 632 (0 ∷ 2 ∷ []) kept_bytes) ≡ faulty 45 632
unfolding read_image read_attached_count read_counts read_raw read_many read_bytes read_text read_word read_object read_subprogram read_task read_row read_instruction byte_at half_at word_at operation_from half word opcode_of address_of constant_of header_bytes name_bytes data_bytes table_bytes code_bytes
plain_stored_too_far = refl

object_word_too_far : image_fault (put 294 (0 ∷ 2 ∷ []) kept_bytes) ≡ faulty 45 294
unfolding read_image read_attached_count read_counts read_raw read_many read_bytes read_text read_word read_object read_subprogram read_task read_row read_instruction byte_at half_at word_at operation_from half word opcode_of address_of constant_of header_bytes name_bytes data_bytes table_bytes code_bytes
object_word_too_far = refl

object_word_stored_too_far : image_fault (put 242 (0 ∷ 2 ∷ []) kept_bytes) ≡ faulty 45 242
unfolding read_image read_attached_count read_counts read_raw read_many read_bytes read_text read_word read_object read_subprogram read_task read_row read_instruction byte_at half_at word_at operation_from half word opcode_of address_of constant_of header_bytes name_bytes data_bytes table_bytes code_bytes
object_word_stored_too_far = refl

object_word_outside : image_fault (put 421 (8 ∷ []) kept_bytes) ≡ faulty 45 421
unfolding read_image read_attached_count read_counts read_raw read_many read_bytes read_text read_word read_object read_subprogram read_task read_row read_instruction byte_at half_at word_at operation_from half word opcode_of address_of constant_of header_bytes name_bytes data_bytes table_bytes code_bytes
object_word_outside = refl

function_writes : image_fault (put 359 (0 ∷ 0 ∷ []) (put 356 (9 ∷ []) kept_bytes)) ≡ faulty 45 356
unfolding read_image read_attached_count read_counts read_raw read_many read_bytes read_text read_word read_object read_subprogram read_task read_row read_instruction byte_at half_at word_at operation_from half word opcode_of address_of constant_of header_bytes name_bytes data_bytes table_bytes code_bytes
function_writes = refl

region_outside : image_fault (put 658 (0 ∷ 2 ∷ []) kept_bytes) ≡ faulty 45 658
unfolding read_image read_attached_count read_counts read_raw read_many read_bytes read_text read_word read_object read_subprogram read_task read_row read_instruction byte_at half_at word_at operation_from half word opcode_of address_of constant_of header_bytes name_bytes data_bytes table_bytes code_bytes
region_outside = refl

block_region_outside : image_fault (put 697 (0 ∷ 2 ∷ []) kept_bytes) ≡ faulty 45 697
unfolding read_image read_attached_count read_counts read_raw read_many read_bytes read_text read_word read_object read_subprogram read_task read_row read_instruction byte_at half_at word_at operation_from half word opcode_of address_of constant_of header_bytes name_bytes data_bytes table_bytes code_bytes
block_region_outside = refl

function_writes_region : image_fault (put 333 (0 ∷ 2 ∷ []) kept_bytes) ≡ faulty 45 333
unfolding read_image read_attached_count read_counts read_raw read_many read_bytes read_text read_word read_object read_subprogram read_task read_row read_instruction byte_at half_at word_at operation_from half word opcode_of address_of constant_of header_bytes name_bytes data_bytes table_bytes code_bytes
function_writes_region = refl

copy_to_object_outside : image_fault (put 762 (0 ∷ 7 ∷ []) kept_bytes) ≡ faulty 45 762
unfolding read_image read_attached_count read_counts read_raw read_many read_bytes read_text read_word read_object read_subprogram read_task read_row read_instruction byte_at half_at word_at operation_from half word opcode_of address_of constant_of header_bytes name_bytes data_bytes table_bytes code_bytes
copy_to_object_outside = refl

copy_from_object_outside : image_fault (put 762 (0 ∷ 5 ∷ []) kept_bytes) ≡ faulty 45 762
unfolding read_image read_attached_count read_counts read_raw read_many read_bytes read_text read_word read_object read_subprogram read_task read_row read_instruction byte_at half_at word_at operation_from half word opcode_of address_of constant_of header_bytes name_bytes data_bytes table_bytes code_bytes
copy_from_object_outside = refl

call_of_none : image_fault (put 554 (0 ∷ 6 ∷ []) kept_bytes) ≡ faulty 45 554
unfolding read_image read_attached_count read_counts read_raw read_many read_bytes read_text read_word read_object read_subprogram read_task read_row read_instruction byte_at half_at word_at operation_from half word opcode_of address_of constant_of header_bytes name_bytes data_bytes table_bytes code_bytes
call_of_none = refl

call_of_task_body : image_fault (put 554 (0 ∷ 4 ∷ []) kept_bytes) ≡ faulty 45 554
unfolding read_image read_attached_count read_counts read_raw read_many read_bytes read_text read_word read_object read_subprogram read_task read_row read_instruction byte_at half_at word_at operation_from half word opcode_of address_of constant_of header_bytes name_bytes data_bytes table_bytes code_bytes
call_of_task_body = refl

external_call_of_plain : image_fault (put 515 (0 ∷ 3 ∷ []) kept_bytes) ≡ faulty 45 515
unfolding read_image read_attached_count read_counts read_raw read_many read_bytes read_text read_word read_object read_subprogram read_task read_row read_instruction byte_at half_at word_at operation_from half word opcode_of address_of constant_of header_bytes name_bytes data_bytes table_bytes code_bytes
external_call_of_plain = refl

entry_call_of_none : image_fault (put 528 (0 ∷ 1 ∷ []) kept_bytes) ≡ faulty 45 528
unfolding read_image read_attached_count read_counts read_raw read_many read_bytes read_text read_word read_object read_subprogram read_task read_row read_instruction byte_at half_at word_at operation_from half word opcode_of address_of constant_of header_bytes name_bytes data_bytes table_bytes code_bytes
entry_call_of_none = refl

label_too_far : image_fault (put 567 (0 ∷ 1 ∷ []) kept_bytes) ≡ faulty 45 567
unfolding read_image read_attached_count read_counts read_raw read_many read_bytes read_text read_word read_object read_subprogram read_task read_row read_instruction byte_at half_at word_at operation_from half word opcode_of address_of constant_of header_bytes name_bytes data_bytes table_bytes code_bytes
label_too_far = refl

entry_without_body : image_fault (put 104 (0 ∷ 6 ∷ []) kept_bytes) ≡ faulty 45 104
unfolding read_image read_attached_count read_counts read_raw read_many read_bytes read_text read_word read_object read_subprogram read_task read_row read_instruction byte_at half_at word_at operation_from half word opcode_of address_of constant_of header_bytes name_bytes data_bytes table_bytes code_bytes
entry_without_body = refl

subprogram_of_no_object : image_fault (put 128 (0 ∷ 1 ∷ []) kept_bytes) ≡ faulty 45 128
unfolding read_image read_attached_count read_counts read_raw read_many read_bytes read_text read_word read_object read_subprogram read_task read_row read_instruction byte_at half_at word_at operation_from half word opcode_of address_of constant_of header_bytes name_bytes data_bytes table_bytes code_bytes
subprogram_of_no_object = refl

task_without_body : image_fault (put 208 (0 ∷ 6 ∷ []) kept_bytes) ≡ faulty 45 208
unfolding read_image read_attached_count read_counts read_raw read_many read_bytes read_text read_word read_object read_subprogram read_task read_row read_instruction byte_at half_at word_at operation_from half word opcode_of address_of constant_of header_bytes name_bytes data_bytes table_bytes code_bytes
task_without_body = refl

-- 46
begins_with_a_word : image_fault (put 617 (0 ∷ 1 ∷ []) kept_bytes) ≡ faulty 46 617
unfolding read_image read_attached_count read_counts read_raw read_many read_bytes read_text read_word read_object read_subprogram read_task read_row read_instruction byte_at half_at word_at operation_from half word opcode_of address_of constant_of header_bytes name_bytes data_bytes table_bytes code_bytes
begins_with_a_word = refl

target_at_0 : image_fault (put 224 (0 ∷ 29 ∷ []) kept_bytes) ≡ faulty 46 604
unfolding read_image read_attached_count read_counts read_raw read_many read_bytes read_text read_word read_object read_subprogram read_task read_row read_instruction byte_at half_at word_at operation_from half word opcode_of address_of constant_of header_bytes name_bytes data_bytes table_bytes code_bytes
target_at_0 = refl

operand_missing : image_fault (put 772 (2 ∷ []) kept_bytes) ≡ faulty 46 773
unfolding read_image read_attached_count read_counts read_raw read_many read_bytes read_text read_word read_object read_subprogram read_task read_row read_instruction byte_at half_at word_at operation_from half word opcode_of address_of constant_of header_bytes name_bytes data_bytes table_bytes code_bytes
operand_missing = refl

-- the first instruction leaves a word
too_deep_before : image_fault (put 138 (0 ∷ 0 ∷ []) kept_bytes) ≡ faulty 46 227
unfolding read_image read_attached_count read_counts read_raw read_many read_bytes read_text read_word read_object read_subprogram read_task read_row read_instruction byte_at half_at word_at operation_from half word opcode_of address_of constant_of header_bytes name_bytes data_bytes table_bytes code_bytes
too_deep_before = refl

returns_too_much : image_fault (put 590 (40 ∷ []) kept_bytes) ≡ faulty 46 591
unfolding read_image read_attached_count read_counts read_raw read_many read_bytes read_text read_word read_object read_subprogram read_task read_row read_instruction byte_at half_at word_at operation_from half word opcode_of address_of constant_of header_bytes name_bytes data_bytes table_bytes code_bytes
returns_too_much = refl

-- what the one before leaves
returns_too_little : image_fault (put 370 (0 ∷ 0 ∷ []) kept_bytes) ≡ faulty 46 370
unfolding read_image read_attached_count read_counts read_raw read_many read_bytes read_text read_word read_object read_subprogram read_task read_row read_instruction byte_at half_at word_at operation_from half word opcode_of address_of constant_of header_bytes name_bytes data_bytes table_bytes code_bytes
returns_too_little = refl

next_of_another_depth : image_fault (put 565 (0 ∷ 2 ∷ []) kept_bytes) ≡ faulty 46 565
unfolding read_image read_attached_count read_counts read_raw read_many read_bytes read_text read_word read_object read_subprogram read_task read_row read_instruction byte_at half_at word_at operation_from half word opcode_of address_of constant_of header_bytes name_bytes data_bytes table_bytes code_bytes
next_of_another_depth = refl

-- behind 18, a return, and the target of 16
target_of_another_depth : image_fault (put 474 (0 ∷ 1 ∷ []) kept_bytes) ≡ faulty 46 474
unfolding read_image read_attached_count read_counts read_raw read_many read_bytes read_text read_word read_object read_subprogram read_task read_row read_instruction byte_at half_at word_at operation_from half word opcode_of address_of constant_of header_bytes name_bytes data_bytes table_bytes code_bytes
target_of_another_depth = refl

back_to_another_depth : image_fault (put 775 (0 ∷ 31 ∷ []) (put 772 (34 ∷ []) kept_bytes)) ≡ faulty 46 773
unfolding read_image read_attached_count read_counts read_raw read_many read_bytes read_text read_word read_object read_subprogram read_task read_row read_instruction byte_at half_at word_at operation_from half word opcode_of address_of constant_of header_bytes name_bytes data_bytes table_bytes code_bytes
back_to_another_depth = refl

to_itself : image_fault (put 775 (0 ∷ 42 ∷ []) (put 772 (36 ∷ []) kept_bytes)) ≡ faulty 46 773
unfolding read_image read_attached_count read_counts read_raw read_many read_bytes read_text read_word read_object read_subprogram read_task read_row read_instruction byte_at half_at word_at operation_from half word opcode_of address_of constant_of header_bytes name_bytes data_bytes table_bytes code_bytes
to_itself = refl

store_block_without_words : image_fault (put 725 (0 ∷ 0 ∷ 0 ∷ 0 ∷ 0 ∷ 0 ∷ 0 ∷ 1 ∷ []) (put 723 (0 ∷ 1 ∷ []) (put 720 (13 ∷ []) kept_bytes))) ≡ faulty 46 721
unfolding read_image read_attached_count read_counts read_raw read_many read_bytes read_text read_word read_object read_subprogram read_task read_row read_instruction byte_at half_at word_at operation_from half word opcode_of address_of constant_of header_bytes name_bytes data_bytes table_bytes code_bytes
store_block_without_words = refl

-- 47: objects
ceiling_too_high : image_fault (put 103 (32 ∷ []) kept_bytes) ≡ faulty 47 103
unfolding read_image read_attached_count read_counts read_raw read_many read_bytes read_text read_word read_object read_subprogram read_task read_row read_instruction byte_at half_at word_at operation_from half word opcode_of address_of constant_of header_bytes name_bytes data_bytes table_bytes code_bytes
ceiling_too_high = refl

barrier_3 : image_fault (put 106 (3 ∷ []) kept_bytes) ≡ faulty 47 106
unfolding read_image read_attached_count read_counts read_raw read_many read_bytes read_text read_word read_object read_subprogram read_task read_row read_instruction byte_at half_at word_at operation_from half word opcode_of address_of constant_of header_bytes name_bytes data_bytes table_bytes code_bytes
barrier_3 = refl

barrier_without_entry : image_fault (put 104 (255 ∷ 255 ∷ []) kept_bytes) ≡ faulty 47 106
unfolding read_image read_attached_count read_counts read_raw read_many read_bytes read_text read_word read_object read_subprogram read_task read_row read_instruction byte_at half_at word_at operation_from half word opcode_of address_of constant_of header_bytes name_bytes data_bytes table_bytes code_bytes
barrier_without_entry = refl

word_beside_true : image_fault (put 106 (1 ∷ []) kept_bytes) ≡ faulty 47 107
unfolding read_image read_attached_count read_counts read_raw read_many read_bytes read_text read_word read_object read_subprogram read_task read_row read_instruction byte_at half_at word_at operation_from half word opcode_of address_of constant_of header_bytes name_bytes data_bytes table_bytes code_bytes
word_beside_true = refl

barrier_word_too_far : image_fault (put 107 (0 ∷ 2 ∷ []) kept_bytes) ≡ faulty 47 109
unfolding read_image read_attached_count read_counts read_raw read_many read_bytes read_text read_word read_object read_subprogram read_task read_row read_instruction byte_at half_at word_at operation_from half word opcode_of address_of constant_of header_bytes name_bytes data_bytes table_bytes code_bytes
barrier_word_too_far = refl

entry_of_another_kind : image_fault (put 104 (0 ∷ 0 ∷ []) kept_bytes) ≡ faulty 47 127
unfolding read_image read_attached_count read_counts read_raw read_many read_bytes read_text read_word read_object read_subprogram read_task read_row read_instruction byte_at half_at word_at operation_from half word opcode_of address_of constant_of header_bytes name_bytes data_bytes table_bytes code_bytes
entry_of_another_kind = refl

-- 47: subprograms
kind_5 : image_fault (put 166 (5 ∷ []) kept_bytes) ≡ faulty 47 166
unfolding read_image read_attached_count read_counts read_raw read_many read_bytes read_text read_word read_object read_subprogram read_task read_row read_instruction byte_at half_at word_at operation_from half word opcode_of address_of constant_of header_bytes name_bytes data_bytes table_bytes code_bytes
kind_5 = refl

kind_without_object : image_fault (put 128 (255 ∷ 255 ∷ []) kept_bytes) ≡ faulty 47 128
unfolding read_image read_attached_count read_counts read_raw read_many read_bytes read_text read_word read_object read_subprogram read_task read_row read_instruction byte_at half_at word_at operation_from half word opcode_of address_of constant_of header_bytes name_bytes data_bytes table_bytes code_bytes
kind_without_object = refl

object_of_plain : image_fault (put 167 (0 ∷ 0 ∷ []) kept_bytes) ≡ faulty 47 167
unfolding read_image read_attached_count read_counts read_raw read_many read_bytes read_text read_word read_object read_subprogram read_task read_row read_instruction byte_at half_at word_at operation_from half word opcode_of address_of constant_of header_bytes name_bytes data_bytes table_bytes code_bytes
object_of_plain = refl

body_beside_entry : image_fault (put 127 (3 ∷ []) kept_bytes) ≡ faulty 47 128
unfolding read_image read_attached_count read_counts read_raw read_many read_bytes read_text read_word read_object read_subprogram read_task read_row read_instruction byte_at half_at word_at operation_from half word opcode_of address_of constant_of header_bytes name_bytes data_bytes table_bytes code_bytes
body_beside_entry = refl

end_again : image_fault (put 143 (0 ∷ 5 ∷ []) kept_bytes) ≡ faulty 47 143
unfolding read_image read_attached_count read_counts read_raw read_many read_bytes read_text read_word read_object read_subprogram read_task read_row read_instruction byte_at half_at word_at operation_from half word opcode_of address_of constant_of header_bytes name_bytes data_bytes table_bytes code_bytes
end_again = refl

end_at_zero : image_fault (put 130 (0 ∷ 0 ∷ []) kept_bytes) ≡ faulty 47 130
unfolding read_image read_attached_count read_counts read_raw read_many read_bytes read_text read_word read_object read_subprogram read_task read_row read_instruction byte_at half_at word_at operation_from half word opcode_of address_of constant_of header_bytes name_bytes data_bytes table_bytes code_bytes
end_at_zero = refl

end_past_code : image_fault (put 195 (0 ∷ 45 ∷ []) kept_bytes) ≡ faulty 47 195
unfolding read_image read_attached_count read_counts read_raw read_many read_bytes read_text read_word read_object read_subprogram read_task read_row read_instruction byte_at half_at word_at operation_from half word opcode_of address_of constant_of header_bytes name_bytes data_bytes table_bytes code_bytes
end_past_code = refl

end_before_last : image_fault (put 195 (0 ∷ 43 ∷ []) kept_bytes) ≡ faulty 47 195
unfolding read_image read_attached_count read_counts read_raw read_many read_bytes read_text read_word read_object read_subprogram read_task read_row read_instruction byte_at half_at word_at operation_from half word opcode_of address_of constant_of header_bytes name_bytes data_bytes table_bytes code_bytes
end_before_last = refl

task_with_parameter : image_fault (put 184 (0 ∷ 1 ∷ []) kept_bytes) ≡ faulty 47 184
unfolding read_image read_attached_count read_counts read_raw read_many read_bytes read_text read_word read_object read_subprogram read_task read_row read_instruction byte_at half_at word_at operation_from half word opcode_of address_of constant_of header_bytes name_bytes data_bytes table_bytes code_bytes
task_with_parameter = refl

task_with_result : image_fault (put 186 (0 ∷ 1 ∷ []) kept_bytes) ≡ faulty 47 186
unfolding read_image read_attached_count read_counts read_raw read_many read_bytes read_text read_word read_object read_subprogram read_task read_row read_instruction byte_at half_at word_at operation_from half word opcode_of address_of constant_of header_bytes name_bytes data_bytes table_bytes code_bytes
task_with_result = refl

parameters_beyond_locals : image_fault (put 132 (0 ∷ 2 ∷ []) kept_bytes) ≡ faulty 47 136
unfolding read_image read_attached_count read_counts read_raw read_many read_bytes read_text read_word read_object read_subprogram read_task read_row read_instruction byte_at half_at word_at operation_from half word opcode_of address_of constant_of header_bytes name_bytes data_bytes table_bytes code_bytes
parameters_beyond_locals = refl

frame_too_long : image_fault (put 203 (2 ∷ 1 ∷ []) kept_bytes) ≡ faulty 47 203
unfolding read_image read_attached_count read_counts read_raw read_many read_bytes read_text read_word read_object read_subprogram read_task read_row read_instruction byte_at half_at word_at operation_from half word opcode_of address_of constant_of header_bytes name_bytes data_bytes table_bytes code_bytes
frame_too_long = refl

-- 47: tasks and texts
priority_too_high : image_fault (put 207 (31 ∷ []) kept_bytes) ≡ faulty 47 207
unfolding read_image read_attached_count read_counts read_raw read_many read_bytes read_text read_word read_object read_subprogram read_task read_row read_instruction byte_at half_at word_at operation_from half word opcode_of address_of constant_of header_bytes name_bytes data_bytes table_bytes code_bytes
priority_too_high = refl

task_in_a_procedure : image_fault (put 208 (0 ∷ 3 ∷ []) kept_bytes) ≡ faulty 47 208
unfolding read_image read_attached_count read_counts read_raw read_many read_bytes read_text read_word read_object read_subprogram read_task read_row read_instruction byte_at half_at word_at operation_from half word opcode_of address_of constant_of header_bytes name_bytes data_bytes table_bytes code_bytes
task_in_a_procedure = refl

task_in_lower_case : image_fault (put 206 (97 ∷ []) kept_bytes) ≡ faulty 47 206
unfolding read_image read_attached_count read_counts read_raw read_many read_bytes read_text read_word read_object read_subprogram read_task read_row read_instruction byte_at half_at word_at operation_from half word opcode_of address_of constant_of header_bytes name_bytes data_bytes table_bytes code_bytes
task_in_lower_case = refl

other_first_exception : image_fault (put 23 (67 ∷ 79 ∷ 78 ∷ 83 ∷ 84 ∷ 82 ∷ 65 ∷ 73 ∷ 78 ∷ 84 ∷ 95 ∷ 69 ∷ 82 ∷ 82 ∷ 79 ∷ 83 ∷ []) kept_bytes) ≡ faulty 47 23
unfolding read_image read_attached_count read_counts read_raw read_many read_bytes read_text read_word read_object read_subprogram read_task read_row read_instruction byte_at half_at word_at operation_from half word opcode_of address_of constant_of header_bytes name_bytes data_bytes table_bytes code_bytes
other_first_exception = refl

exception_in_lower_case : image_fault (put 82 (98 ∷ 65 ∷ 68 ∷ []) kept_bytes) ≡ faulty 47 82
unfolding read_image read_attached_count read_counts read_raw read_many read_bytes read_text read_word read_object read_subprogram read_task read_row read_instruction byte_at half_at word_at operation_from half word opcode_of address_of constant_of header_bytes name_bytes data_bytes table_bytes code_bytes
exception_in_lower_case = refl

reserved_name : image_fault (put 82 (65 ∷ 78 ∷ 68 ∷ []) kept_bytes) ≡ faulty 47 82
unfolding read_image read_attached_count read_counts read_raw read_many read_bytes read_text read_word read_object read_subprogram read_task read_row read_instruction byte_at half_at word_at operation_from half word opcode_of address_of constant_of header_bytes name_bytes data_bytes table_bytes code_bytes
reserved_name = refl

label_with_space : image_fault (put 86 (32 ∷ []) kept_bytes) ≡ faulty 47 86
unfolding read_image read_attached_count read_counts read_raw read_many read_bytes read_text read_word read_object read_subprogram read_task read_row read_instruction byte_at half_at word_at operation_from half word opcode_of address_of constant_of header_bytes name_bytes data_bytes table_bytes code_bytes
label_with_space = refl

unknown_exception : image_fault (put 222 (0 ∷ 6 ∷ []) kept_bytes) ≡ faulty 47 222
unfolding read_image read_attached_count read_counts read_raw read_many read_bytes read_text read_word read_object read_subprogram read_task read_row read_instruction byte_at half_at word_at operation_from half word opcode_of address_of constant_of header_bytes name_bytes data_bytes table_bytes code_bytes
unknown_exception = refl

-- the least byte; proofs/OrderExamples has each pair of rules
least_byte : image_fault (put 220 (0 ∷ 21 ∷ []) (put 103 (32 ∷ []) (put 184 (0 ∷ 1 ∷ []) kept_bytes))) ≡ faulty 47 103
unfolding read_image read_attached_count read_counts read_raw read_many read_bytes read_text read_word read_object read_subprogram read_task read_row read_instruction byte_at half_at word_at operation_from half word opcode_of address_of constant_of header_bytes name_bytes data_bytes table_bytes code_bytes
least_byte = refl

-- no operation, and the last one of a subprogram
opcode_of_the_last : image_fault (put 603 (0 ∷ []) kept_bytes) ≡ faulty 43 603
unfolding read_image read_attached_count read_counts read_raw read_many read_bytes read_text read_word read_object read_subprogram read_task read_row read_instruction byte_at half_at word_at operation_from half word opcode_of address_of constant_of header_bytes name_bytes data_bytes table_bytes code_bytes
opcode_of_the_last = refl

-- a block of no region still takes its index
depth_before_operand : image_fault (put 697 (0 ∷ 3 ∷ []) (put 695 (0 ∷ 0 ∷ []) kept_bytes)) ≡ faulty 46 695
unfolding read_image read_attached_count read_counts read_raw read_many read_bytes read_text read_word read_object read_subprogram read_task read_row read_instruction byte_at half_at word_at operation_from half word opcode_of address_of constant_of header_bytes name_bytes data_bytes table_bytes code_bytes
depth_before_operand = refl

depth_without_operation : image_fault (put 760 (0 ∷ 3 ∷ []) (put 759 (0 ∷ []) kept_bytes)) ≡ faulty 43 759
unfolding read_image read_attached_count read_counts read_raw read_many read_bytes read_text read_word read_object read_subprogram read_task read_row read_instruction byte_at half_at word_at operation_from half word opcode_of address_of constant_of header_bytes name_bytes data_bytes table_bytes code_bytes
depth_without_operation = refl

-- where ends are not in order no depth is judged
ends_and_code : image_fault (put 772 (2 ∷ []) (put 143 (0 ∷ 5 ∷ []) kept_bytes)) ≡ faulty 47 143
unfolding read_image read_attached_count read_counts read_raw read_many read_bytes read_text read_word read_object read_subprogram read_task read_row read_instruction byte_at half_at word_at operation_from half word opcode_of address_of constant_of header_bytes name_bytes data_bytes table_bytes code_bytes
ends_and_code = refl
