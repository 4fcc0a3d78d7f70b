-- Images with handlers of interrupts, read and judged by computation: version 2, its ninth count, and its attachments.
use Rattle.std.proofs.Common.{◌≡◌, ℕ, List, [], ◌∷◌, ◌++◌, Some, None, take, drop, refl}
use Rattle.image_format.proofs.Images.{attached, handled}
use Rattle.image_format.specs.Bytes.{address_of, bytes_of, code_bytes, constant_of, data_bytes, half, header_bytes, name_bytes, opcode_of, table_bytes, word}
use Rattle.image_loading.specs.Decoding.{operation_from}
use Rattle.image_loading.specs.Loading.{image_fault}
use Rattle.image_loading.specs.Reading.{byte_at, half_at, read_attached_count, read_attachment, read_bytes, read_counts, read_image, read_instruction, read_many, read_object, read_raw, read_row, read_subprogram, read_task, read_text, read_word, word_at}
use Rattle.image.specs.declared.attachments.Attachment.{Attachment}
use Rattle.image_loading.proofs.LoadingExamples.{faulty, put, sections_read}

abbrev handled_bytes : List ℕ
handled_bytes = bytes_of handled

abbrev eight : List Attachment
eight = attached 1 1 ∷ attached 2 1 ∷ attached 3 1 ∷ attached 4 1 ∷ attached 5 1 ∷ attached 6 1 ∷ attached 7 1 ∷ attached 8 1 ∷ []

-- the same image with other attachments
abbrev attaching : List Attachment → List ℕ
attaching attachments = bytes_of (record handled { attachments = attachments })

handled_accepted : image_fault handled_bytes ≡ None
unfolding read_image read_attached_count read_attachment read_counts read_raw read_many read_bytes read_text read_word read_object read_subprogram read_task read_row read_instruction byte_at half_at word_at operation_from half word opcode_of address_of constant_of header_bytes name_bytes data_bytes table_bytes code_bytes
handled_accepted = refl

handled_again : sections_read (read_image handled_bytes) ≡ Some handled
unfolding read_image read_attached_count read_attachment read_counts read_raw read_many read_bytes read_text read_word read_object read_subprogram read_task read_row read_instruction byte_at half_at word_at operation_from half word opcode_of address_of constant_of header_bytes name_bytes data_bytes table_bytes code_bytes
handled_again = refl

-- 40, 41, 42
version_3 : image_fault (put 5 (3 ∷ []) handled_bytes) ≡ faulty 40 4
unfolding read_image read_attached_count read_attachment read_counts read_raw read_many read_bytes read_text read_word read_object read_subprogram read_task read_row read_instruction byte_at half_at word_at operation_from half word opcode_of address_of constant_of header_bytes name_bytes data_bytes table_bytes code_bytes
version_3 = refl

ninth_count_missing : image_fault (take 23 handled_bytes) ≡ faulty 41 23
unfolding read_image read_attached_count read_attachment read_counts read_raw read_many read_bytes read_text read_word read_object read_subprogram read_task read_row read_instruction byte_at half_at word_at operation_from half word opcode_of address_of constant_of header_bytes name_bytes data_bytes table_bytes code_bytes
ninth_count_missing = refl

last_byte_missing : image_fault (take 153 handled_bytes) ≡ faulty 41 153
unfolding read_image read_attached_count read_attachment read_counts read_raw read_many read_bytes read_text read_word read_object read_subprogram read_task read_row read_instruction byte_at half_at word_at operation_from half word opcode_of address_of constant_of header_bytes name_bytes data_bytes table_bytes code_bytes
last_byte_missing = refl

one_more_byte : image_fault (handled_bytes ++ 0 ∷ []) ≡ faulty 42 154
unfolding read_image read_attached_count read_attachment read_counts read_raw read_many read_bytes read_text read_word read_object read_subprogram read_task read_row read_instruction byte_at half_at word_at operation_from half word opcode_of address_of constant_of header_bytes name_bytes data_bytes table_bytes code_bytes
one_more_byte = refl

-- 47: the ninth count
none_attached : image_fault (put 22 (0 ∷ 0 ∷ []) (take 125 handled_bytes ++ drop 128 handled_bytes)) ≡ faulty 47 22
unfolding read_image read_attached_count read_attachment read_counts read_raw read_many read_bytes read_text read_word read_object read_subprogram read_task read_row read_instruction byte_at half_at word_at operation_from half word opcode_of address_of constant_of header_bytes name_bytes data_bytes table_bytes code_bytes
none_attached = refl

nine_attached : image_fault (attaching (eight ++ attached 9 1 ∷ [])) ≡ faulty 47 22
unfolding read_image read_attached_count read_attachment read_counts read_raw read_many read_bytes read_text read_word read_object read_subprogram read_task read_row read_instruction byte_at half_at word_at operation_from half word opcode_of address_of constant_of header_bytes name_bytes data_bytes table_bytes code_bytes
nine_attached = refl

all_attached : image_fault (attaching eight) ≡ None
unfolding read_image read_attached_count read_attachment read_counts read_raw read_many read_bytes read_text read_word read_object read_subprogram read_task read_row read_instruction byte_at half_at word_at operation_from half word opcode_of address_of constant_of header_bytes name_bytes data_bytes table_bytes code_bytes
all_attached = refl

-- 47: the channel
channel_0 : image_fault (put 125 (0 ∷ []) handled_bytes) ≡ faulty 47 125
unfolding read_image read_attached_count read_attachment read_counts read_raw read_many read_bytes read_text read_word read_object read_subprogram read_task read_row read_instruction byte_at half_at word_at operation_from half word opcode_of address_of constant_of header_bytes name_bytes data_bytes table_bytes code_bytes
channel_0 = refl

channel_9 : image_fault (put 125 (9 ∷ []) handled_bytes) ≡ faulty 47 125
unfolding read_image read_attached_count read_attachment read_counts read_raw read_many read_bytes read_text read_word read_object read_subprogram read_task read_row read_instruction byte_at half_at word_at operation_from half word opcode_of address_of constant_of header_bytes name_bytes data_bytes table_bytes code_bytes
channel_9 = refl

channel_again : image_fault (attaching (attached 3 1 ∷ attached 3 1 ∷ [])) ≡ faulty 47 128
unfolding read_image read_attached_count read_attachment read_counts read_raw read_many read_bytes read_text read_word read_object read_subprogram read_task read_row read_instruction byte_at half_at word_at operation_from half word opcode_of address_of constant_of header_bytes name_bytes data_bytes table_bytes code_bytes
channel_again = refl

channels_fall : image_fault (attaching (attached 3 1 ∷ attached 2 1 ∷ [])) ≡ faulty 47 128
unfolding read_image read_attached_count read_attachment read_counts read_raw read_many read_bytes read_text read_word read_object read_subprogram read_task read_row read_instruction byte_at half_at word_at operation_from half word opcode_of address_of constant_of header_bytes name_bytes data_bytes table_bytes code_bytes
channels_fall = refl

-- 45: the subprogram is there
handler_missing : image_fault (put 126 (0 ∷ 2 ∷ []) handled_bytes) ≡ faulty 45 126
unfolding read_image read_attached_count read_attachment read_counts read_raw read_many read_bytes read_text read_word read_object read_subprogram read_task read_row read_instruction byte_at half_at word_at operation_from half word opcode_of address_of constant_of header_bytes name_bytes data_bytes table_bytes code_bytes
handler_missing = refl

-- 47: the subprogram may handle interrupts
body_of_main : image_fault (put 126 (0 ∷ 0 ∷ []) handled_bytes) ≡ faulty 47 126
unfolding read_image read_attached_count read_attachment read_counts read_raw read_many read_bytes read_text read_word read_object read_subprogram read_task read_row read_instruction byte_at half_at word_at operation_from half word opcode_of address_of constant_of header_bytes name_bytes data_bytes table_bytes code_bytes
body_of_main = refl

lower_ceiling : image_fault (put 83 (30 ∷ []) handled_bytes) ≡ faulty 47 126
unfolding read_image read_attached_count read_attachment read_counts read_raw read_many read_bytes read_text read_word read_object read_subprogram read_task read_row read_instruction byte_at half_at word_at operation_from half word opcode_of address_of constant_of header_bytes name_bytes data_bytes table_bytes code_bytes
lower_ceiling = refl

function : image_fault (put 104 (2 ∷ []) handled_bytes) ≡ faulty 47 126
unfolding read_image read_attached_count read_attachment read_counts read_raw read_many read_bytes read_text read_word read_object read_subprogram read_task read_row read_instruction byte_at half_at word_at operation_from half word opcode_of address_of constant_of header_bytes name_bytes data_bytes table_bytes code_bytes
function = refl

with_parameter : image_fault (put 109 (0 ∷ 1 ∷ 0 ∷ 0 ∷ 0 ∷ 1 ∷ []) handled_bytes) ≡ faulty 47 126
unfolding read_image read_attached_count read_attachment read_counts read_raw read_many read_bytes read_text read_word read_object read_subprogram read_task read_row read_instruction byte_at half_at word_at operation_from half word opcode_of address_of constant_of header_bytes name_bytes data_bytes table_bytes code_bytes
with_parameter = refl

with_result : image_fault (put 111 (0 ∷ 1 ∷ []) handled_bytes) ≡ faulty 47 126
unfolding read_image read_attached_count read_attachment read_counts read_raw read_many read_bytes read_text read_word read_object read_subprogram read_task read_row read_instruction byte_at half_at word_at operation_from half word opcode_of address_of constant_of header_bytes name_bytes data_bytes table_bytes code_bytes
with_result = refl

-- the least byte
two_faults : image_fault (put 125 (9 ∷ 0 ∷ 2 ∷ []) handled_bytes) ≡ faulty 47 125
unfolding read_image read_attached_count read_attachment read_counts read_raw read_many read_bytes read_text read_word read_object read_subprogram read_task read_row read_instruction byte_at half_at word_at operation_from half word opcode_of address_of constant_of header_bytes name_bytes data_bytes table_bytes code_bytes
two_faults = refl
