-- Images that break two rules: which of the two is named, and at which byte (docs/FORMATS.md, "Well-formed images").
use Rattle.std.proofs.Common.{◌≡◌, ℕ, List, [], ◌∷◌, ◌++◌, Some, Bool, true, ◌&&◌, take, length, map, nat_eq, refl}
use Rattle.std.specs.List.{list_any}
use Rattle.image_format.specs.Bytes.{address_of, code_bytes, constant_of, data_bytes, half, header_bytes, name_bytes, opcode_of, table_bytes, word}
use Rattle.image_loading.specs.Decoding.{operation_from}
use Rattle.image_loading.specs.FaultOrder.{ImageFaults, fault_at}
use Rattle.image_loading.specs.Loading.{image_fault, image_faults}
use Rattle.image_loading.specs.Reading.{byte_at, half_at, read_attached_count, read_bytes, read_counts, read_image, read_instruction, read_many, read_object, read_raw, read_row, read_subprogram, read_task, read_text, read_word, word_at}
use Rattle.image.specs.declared.fault.ImageFault.{ImageFault}
use Rattle.image_loading.proofs.LoadingExamples.{kept_bytes, put}

-- what is changed of the bytes of the image `kept`, whose 798 bytes break no rule; each breaks one rule alone
abbrev Change : Type 0
Change = List ℕ → List ℕ

-- 40
abbrev other_magic : Change
other_magic = put 3 (0 ∷ [])

abbrev other_version : Change
other_version = put 5 (3 ∷ [])

-- 41: without the last byte; 42: with one more
abbrev cut_short : Change
cut_short = take 797

abbrev one_more : Change
one_more bytes = bytes ++ 0 ∷ []

-- 43: LDX of region 3; no operation
abbrev region_3 : Change
region_3 = put 658 (0 ∷ 3 ∷ [])

abbrev no_operation : Change
no_operation = put 772 (0 ∷ [])

-- 44: a region in two subprograms; JZ into another one; the last instruction goes on
abbrev region_over_two : Change
region_over_two = put 220 (0 ∷ 31 ∷ [])

abbrev jump_to_another : Change
jump_to_another = put 437 (0 ∷ 21 ∷ [])

abbrev falls_off_code : Change
falls_off_code = put 785 (42 ∷ [])

-- 45: a task's body that isn't there; a local that isn't; the words of an object in main
abbrev task_without_body : Change
task_without_body = put 208 (0 ∷ 6 ∷ [])

abbrev local_too_far : Change
local_too_far = put 424 (0 ∷ 1 ∷ [])

abbrev object_in_main : Change
object_in_main = put 697 (0 ∷ 2 ∷ [])

-- 46: RET with a word left; DROP of none
abbrev returns_too_much : Change
returns_too_much = put 590 (40 ∷ [])

abbrev operand_missing : Change
operand_missing = put 772 (2 ∷ [])

-- 47: a ceiling of 32; a priority of 31
abbrev ceiling_too_high : Change
ceiling_too_high = put 103 (32 ∷ [])

abbrev priority_too_high : Change
priority_too_high = put 215 (31 ∷ [])

-- both of them
abbrev both : Change → Change → Change
both one other bytes = one (other bytes)

-- 40, then 41, then 42, then the others, wherever these stand: two changes, and what each of them breaks alone, the first of which is named
-- where both are made. Bytes that end early have none behind the last section, so 41 and 42 don't meet.
record Pair : Type 0 where
  one : Change
  other : Change
  first : ImageFault
  second : ImageFault

abbrev before : Change → ImageFault → Change → ImageFault → Pair
before one first other second = record { one = one; other = other; first = first; second = second }

abbrev pairs : List Pair
pairs =
    before other_version (fault_at 40 4) cut_short (fault_at 41 797)
    ∷ before other_magic (fault_at 40 0) one_more (fault_at 42 798)
    ∷ before other_version (fault_at 40 4) no_operation (fault_at 43 772)
    ∷ before other_magic (fault_at 40 0) jump_to_another (fault_at 44 437)
    ∷ before other_version (fault_at 40 4) local_too_far (fault_at 45 424)
    ∷ before other_magic (fault_at 40 0) returns_too_much (fault_at 46 591)
    ∷ before other_version (fault_at 40 4) ceiling_too_high (fault_at 47 103)
    ∷ before cut_short (fault_at 41 797) no_operation (fault_at 43 772)
    ∷ before cut_short (fault_at 41 797) jump_to_another (fault_at 44 437)
    ∷ before cut_short (fault_at 41 797) local_too_far (fault_at 45 424)
    ∷ before cut_short (fault_at 41 797) returns_too_much (fault_at 46 591)
    ∷ before cut_short (fault_at 41 797) ceiling_too_high (fault_at 47 103)
    ∷ before one_more (fault_at 42 798) no_operation (fault_at 43 772)
    ∷ before one_more (fault_at 42 798) jump_to_another (fault_at 44 437)
    ∷ before one_more (fault_at 42 798) local_too_far (fault_at 45 424)
    ∷ before one_more (fault_at 42 798) returns_too_much (fault_at 46 591)
    ∷ before one_more (fault_at 42 798) ceiling_too_high (fault_at 47 103)
    ∷ []

one_alone : map (λ p. image_fault (p.one kept_bytes)) pairs ≡ map (λ p. Some p.first) pairs
unfolding read_image read_attached_count read_counts read_raw read_many read_bytes read_text read_word read_object read_subprogram read_task read_row read_instruction byte_at half_at word_at operation_from half word opcode_of address_of constant_of header_bytes name_bytes data_bytes table_bytes code_bytes
one_alone = refl

other_alone : map (λ p. image_fault (p.other kept_bytes)) pairs ≡ map (λ p. Some p.second) pairs
unfolding read_image read_attached_count read_counts read_raw read_many read_bytes read_text read_word read_object read_subprogram read_task read_row read_instruction byte_at half_at word_at operation_from half word opcode_of address_of constant_of header_bytes name_bytes data_bytes table_bytes code_bytes
other_alone = refl

first_of_two : map (λ p. image_fault (p.one (p.other kept_bytes))) pairs ≡ map (λ p. Some p.first) pairs
unfolding read_image read_attached_count read_counts read_raw read_many read_bytes read_text read_word read_object read_subprogram read_task read_row read_instruction byte_at half_at word_at operation_from half word opcode_of address_of constant_of header_bytes name_bytes data_bytes table_bytes code_bytes
first_of_two = refl

-- Of 43 to 47 the one at the least byte, and there the one with the least number: images that break two of them and no other.
-- Which can't both be broken, before byte 4,294,967,295, which stands for all behind it:
-- 43 or 46 before 47: both stand in instructions alone, and 47 in front of these
-- 43 and 44 at a byte: what isn't an operation is no last instruction that goes on, and a jump's operand may be any
-- 44 and 47 at a byte: this could be the end of a region alone, and an empty one crosses none
-- 46 and another at a byte: only 46 is at a depth; 43 and 47 at a byte: they stand in different sections
record Wrong : Type 0 where
  change : Change
  first : ImageFault
  second : ImageFault

abbrev breaks : Change → ImageFault → ImageFault → Wrong
breaks change first second = record { change = change; first = first; second = second }

-- CPY in main, to region 3 from the words of an object
abbrev copy_from_object : Change
copy_from_object = put 762 (0 ∷ 11 ∷ [])

-- STP as the last instruction of a plain subprogram
abbrev ends_storing : Change
ends_storing = put 486 (9 ∷ [])

-- a row whose region is empty, and whose exception isn't there
abbrev empty_and_unknown : Change
empty_and_unknown = put 218 (0 ∷ 22 ∷ 0 ∷ 22 ∷ 0 ∷ 6 ∷ [])

-- the body of object 0's entry is of object 1, which isn't there; it drops its word in place of storing it
abbrev entry_of_none : Change
entry_of_none bytes = put 154 (0 ∷ 1 ∷ []) (put 395 (2 ∷ 0 ∷ 1 ∷ 0 ∷ 0 ∷ []) bytes)

abbrev wrongs : List Wrong
wrongs =
    breaks (both region_3 falls_off_code) (fault_at 43 658) (fault_at 44 785)
    ∷ breaks (both jump_to_another no_operation) (fault_at 44 437) (fault_at 43 772)
    ∷ breaks (both region_3 object_in_main) (fault_at 43 658) (fault_at 45 697)
    ∷ breaks (both local_too_far no_operation) (fault_at 45 424) (fault_at 43 772)
    ∷ breaks copy_from_object (fault_at 43 762) (fault_at 45 762)
    ∷ breaks (both region_3 operand_missing) (fault_at 43 658) (fault_at 46 773)
    ∷ breaks (both returns_too_much no_operation) (fault_at 46 591) (fault_at 43 772)
    ∷ breaks (both ceiling_too_high no_operation) (fault_at 47 103) (fault_at 43 772)
    ∷ breaks (both region_over_two local_too_far) (fault_at 44 224) (fault_at 45 424)
    ∷ breaks (both local_too_far jump_to_another) (fault_at 45 424) (fault_at 44 437)
    ∷ breaks ends_storing (fault_at 44 486) (fault_at 45 486)
    ∷ breaks (both jump_to_another returns_too_much) (fault_at 44 437) (fault_at 46 591)
    ∷ breaks (both returns_too_much falls_off_code) (fault_at 46 591) (fault_at 44 785)
    ∷ breaks empty_and_unknown (fault_at 44 220) (fault_at 47 222)
    ∷ breaks (both ceiling_too_high jump_to_another) (fault_at 47 103) (fault_at 44 437)
    ∷ breaks (both local_too_far returns_too_much) (fault_at 45 424) (fault_at 46 591)
    ∷ breaks (both returns_too_much object_in_main) (fault_at 46 591) (fault_at 45 697)
    ∷ breaks (both task_without_body priority_too_high) (fault_at 45 208) (fault_at 47 215)
    ∷ breaks (both ceiling_too_high local_too_far) (fault_at 47 103) (fault_at 45 424)
    ∷ breaks entry_of_none (fault_at 45 154) (fault_at 47 154)
    ∷ breaks (both ceiling_too_high returns_too_much) (fault_at 47 103) (fault_at 46 591)
    ∷ []

abbrev has : ImageFaults → ImageFault → Bool
has faults f = list_any (λ g. nat_eq g.number f.number && nat_eq g.byte f.byte) faults

abbrev are_both : ImageFaults → ImageFault → ImageFault → Bool
are_both faults a b = nat_eq (length faults) 2 && (has faults a && has faults b)

two_broken : map (λ w. are_both (image_faults (w.change kept_bytes)) w.first w.second) wrongs ≡ map (λ w. true) wrongs
unfolding read_image read_attached_count read_counts read_raw read_many read_bytes read_text read_word read_object read_subprogram read_task read_row read_instruction byte_at half_at word_at operation_from half word opcode_of address_of constant_of header_bytes name_bytes data_bytes table_bytes code_bytes
two_broken = refl

least_named : map (λ w. image_fault (w.change kept_bytes)) wrongs ≡ map (λ w. Some w.first) wrongs
unfolding read_image read_attached_count read_counts read_raw read_many read_bytes read_text read_word read_object read_subprogram read_task read_row read_instruction byte_at half_at word_at operation_from half word opcode_of address_of constant_of header_bytes name_bytes data_bytes table_bytes code_bytes
least_named = refl
