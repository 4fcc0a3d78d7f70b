-- Images that break one rule each, worked by computation: the numbers of the rules that each breaks.
use Rattle.std.proofs.Common.{◌≡◌, ℕ, ◌+◌, List, [], ◌∷◌, ◌++◌, pos, Bool, Option, Some, None, true, false, refl, take, drop, replicate}
use Rattle.std.specs.Prelude.{codes}
use Rattle.handlers.specs.declared.rows.Row.{Row}
use Rattle.base.specs.Names.{predefined}
use Rattle.image.specs.ObjectTable.{ObjectRow}
use Rattle.image.specs.Rules.{operands_in_range, jumps_stay_inside, named_things_exist, depths_agree, has_counts, tables_agree}
use Rattle.image.specs.Sections.{Sections}
use Rattle.image.specs.declared.instruction.Instr.{Instr}
use Rattle.image.specs.declared.instruction.Operation.TheVariants as op
use Rattle.image.specs.declared.instruction.Region.TheVariants as regions
use Rattle.image.specs.declared.objects.Barrier.{Barrier}
use Rattle.image.specs.declared.objects.Barrier.TheVariants as barriers
use Rattle.image.specs.declared.subprograms.Kind.TheVariants.{Plain, ProtectedProcedure, ProtectedFunction, EntryBody, TaskBody}
use Rattle.image.specs.declared.subprograms.Subprogram.{Subprogram}
use Rattle.image.specs.declared.tasks.Task.{Task}
use Rattle.image_laws.proofs.Examples.{at, body, main_is, plain_image, row, sub, task}

abbrev unless : Bool → ℕ → List ℕ → List ℕ
unless true number numbers = numbers
unless false number numbers = number ∷ numbers

-- the rules that an image breaks
abbrev broken : Sections → List ℕ
broken i =
    unless (operands_in_range i) 43 (unless (jumps_stay_inside i) 44 (unless (named_things_exist i) 45 (unless (depths_agree i) 46 (unless (tables_agree i) 47 []))))

-- An image that keeps all rules, in which the others change one thing

abbrev object_of_entry : ObjectRow
object_of_entry = record { ceiling = 10; entry = Some 2; barrier = barriers.Word 1; words = pos 0 ∷ pos 0 ∷ [] }

abbrev pub kept : Sections
kept = record {
  exceptions = predefined ++ codes "BAD" ∷ [];
  labels = codes "x" ∷ [];
  plain_words = pos 10 ∷ pos 20 ∷ [];
  objects = object_of_entry ∷ [];
  subprograms =
      sub (ProtectedProcedure 0) 5 1 0 1 2 ∷ sub (ProtectedFunction 0) 12 0 1 0 3 ∷ sub (EntryBody 0) 15 0 0 0 1 ∷ sub Plain 21 1 1 1 2 ∷ body 30 0 1 ∷ body 44 0 2 ∷ [];
  tasks = task (codes "A") 5 4 ∷ main_is 5;
  rows = row 21 26 1 28 ∷ [];
  attachments = [];
  instructions =
      -- 0: a procedure of object 0
      at 0 (op.LoadLocal 0) ∷ at 1 (op.StoreObject 0) ∷ at 0 (op.Call 1) ∷ at 1 op.Drop ∷ at 0 op.Return
      -- 5: a function of object 0
      ∷ at 0 (op.LoadObject 0) ∷ at 1 op.Duplicate ∷ at 2 op.Duplicate ∷ at 3 (op.StoreIndexed regions.Plain) ∷ at 1 op.Duplicate ∷ at 2 op.Drop ∷ at 1 op.Return
      -- 12: the body of its entry
      ∷ at 0 (op.Push (pos 1)) ∷ at 1 (op.StoreObject 1) ∷ at 0 op.Return
      -- 15: a plain function
      ∷ at 0 (op.LoadLocal 0) ∷ at 1 (op.JumpIfZero 19) ∷ at 0 (op.Push (pos 5)) ∷ at 1 op.Return ∷ at 0 (op.Push (pos 6)) ∷ at 1 op.Return
      -- 21: the body of task A, with a handler at 28
      ∷ at 0 (op.Push (pos 3)) ∷ at 1 (op.ProtectedCall 0) ∷ at 0 (op.EntryCall 0) ∷ at 0 (op.Push (pos 1)) ∷ at 1 (op.Call 3) ∷ at 1 (op.PutLine 0) ∷ at 0 op.Return ∷ at 1 op.Drop ∷ at 0 op.Return
      -- 30: the body of main
      ∷ at 0 (op.LoadPlain 0) ∷ at 1 (op.StorePlain 1) ∷ at 0 (op.Push (pos 0)) ∷ at 1 (op.LoadIndexed regions.Plain) ∷ at 1 op.Drop
      ∷ at 0 (op.Push (pos 0)) ∷ at 1 (op.LoadBlock regions.Plain 2) ∷ at 2 (op.PutLine 0) ∷ at 1 (op.PutLine 0)
      ∷ at 0 (op.Push (pos 0)) ∷ at 1 (op.Push (pos 1)) ∷ at 2 (op.Copy regions.Plain regions.Plain 1) ∷ at 0 op.CheckBlocking ∷ at 0 op.Return ∷ [];
}

kept_keeps : broken kept ≡ []
kept_keeps = refl

-- other elements at a number, or one more at the end
abbrev put_at : {X : Type 0} → ℕ → List X → List X → List X
put_at number others all = take number all ++ others ++ drop (number + 1) all

abbrev with_instruction : ℕ → Instr → Sections
with_instruction place x = record kept { instructions = put_at place (x ∷ []) kept.instructions }

abbrev with_subprogram : ℕ → Subprogram → Sections
with_subprogram number s = record kept { subprograms = put_at number (s ∷ []) kept.subprograms }

abbrev with_object : ObjectRow → Sections
with_object o = record kept { objects = o ∷ [] }

abbrev with_task : Task → Sections
with_task t = record kept { tasks = t ∷ main_is 5 }

abbrev with_rows : List Row → Sections
with_rows rows = record kept { rows = rows }

abbrev second_object : Option ℕ → Barrier → ObjectRow
second_object entry barrier = record { ceiling = 10; entry = entry; barrier = barrier; words = pos 0 ∷ [] }

abbrev with_second : ObjectRow → Sections
with_second o = record kept { objects = object_of_entry ∷ o ∷ [] }

-- The ends alone: two returns with the end 1, one return with the ends 1 and 1, a push and a return with the ends 0 and 2

behind_last_end : broken (plain_image [] (body 1 0 0 ∷ []) (main_is 0) [] (at 0 op.Return ∷ at 0 op.Return ∷ [])) ≡ 47 ∷ []
behind_last_end = refl

end_again : broken (plain_image [] (body 1 0 0 ∷ body 1 0 0 ∷ []) (main_is 0) [] (at 0 op.Return ∷ [])) ≡ 47 ∷ []
end_again = refl

end_at_zero : broken (plain_image [] (body 0 0 0 ∷ sub TaskBody 2 0 0 0 1 ∷ []) (main_is 0) [] (at 0 (op.Push (pos 1)) ∷ at 1 op.Return ∷ [])) ≡ 47 ∷ []
end_at_zero = refl

end_past_code : broken (plain_image [] (body 2 0 0 ∷ []) (main_is 0) [] (at 0 op.Return ∷ [])) ≡ 47 ∷ []
end_past_code = refl

-- 43

copy_of_none : broken (with_instruction 41 (at 2 (op.Copy regions.Plain regions.Plain 0))) ≡ 43 ∷ []
copy_of_none = refl

copy_too_long : broken (with_instruction 41 (at 2 (op.Copy regions.Plain regions.Plain 8193))) ≡ 43 ∷ []
copy_too_long = refl

copy_of_most : broken (with_instruction 41 (at 2 (op.Copy regions.Plain regions.Plain 8192))) ≡ []
copy_of_most = refl

load_of_none : broken (plain_image [] (body 3 0 1 ∷ []) (main_is 0) [] (at 0 (op.Push (pos 0)) ∷ at 1 (op.LoadBlock regions.Plain 0) ∷ at 0 op.Return ∷ [])) ≡ 43 ∷ []
load_of_none = refl

store_of_none : broken (plain_image [] (body 3 0 1 ∷ []) (main_is 0) [] (at 0 (op.Push (pos 0)) ∷ at 1 (op.StoreBlock regions.Plain 0) ∷ at 0 op.Return ∷ [])) ≡ 43 ∷ []
store_of_none = refl

-- 44

jump_to_another : broken (with_instruction 16 (at 1 (op.JumpIfZero 21))) ≡ 44 ∷ []
jump_to_another = refl

jump_past_code : broken (with_instruction 16 (at 1 (op.JumpIfZero 44))) ≡ 44 ∷ []
jump_past_code = refl

falls_through : broken (with_instruction 29 (at 0 op.CheckBlocking)) ≡ 44 ∷ []
falls_through = refl

falls_off_code : broken (with_instruction 43 (at 0 op.CheckBlocking)) ≡ 44 ∷ []
falls_off_code = refl

empty_region : broken (with_rows (row 21 21 1 28 ∷ [])) ≡ 44 ∷ []
empty_region = refl

region_backwards : broken (with_rows (row 22 21 1 28 ∷ [])) ≡ 44 ∷ []
region_backwards = refl

region_over_two : broken (with_rows (row 21 31 1 28 ∷ [])) ≡ 44 ∷ []
region_over_two = refl

region_past_code : broken (with_rows (row 34 45 1 34 ∷ [])) ≡ 44 ∷ []
region_past_code = refl

target_in_another : broken (with_rows (row 21 26 1 20 ∷ [])) ≡ 44 ∷ []
target_in_another = refl

target_past_code : broken (with_rows (row 21 26 1 44 ∷ [])) ≡ 44 ∷ []
target_past_code = refl

-- an empty region is told where the ends are not in order too
empty_region_and_ends : broken (plain_image [] (body 1 0 0 ∷ []) (main_is 0) (row 1 1 0 0 ∷ []) (at 0 op.Return ∷ at 0 op.Return ∷ [])) ≡ 44 ∷ 47 ∷ []
empty_region_and_ends = refl

-- 45: words

local_too_far : broken (with_instruction 15 (at 0 (op.LoadLocal 1))) ≡ 45 ∷ []
local_too_far = refl

plain_too_far : broken (with_instruction 30 (at 0 (op.LoadPlain 2))) ≡ 45 ∷ []
plain_too_far = refl

plain_stored_too_far : broken (with_instruction 31 (at 1 (op.StorePlain 2))) ≡ 45 ∷ []
plain_stored_too_far = refl

object_word_too_far : broken (with_instruction 5 (at 0 (op.LoadObject 2))) ≡ 45 ∷ []
object_word_too_far = refl

object_word_stored_too_far : broken (with_instruction 1 (at 1 (op.StoreObject 2))) ≡ 45 ∷ []
object_word_stored_too_far = refl

-- words of an object outside it, and written by its function
object_word_outside : broken (with_instruction 15 (at 0 (op.LoadObject 0))) ≡ 45 ∷ []
object_word_outside = refl

function_writes : broken (with_instruction 10 (at 2 (op.StoreObject 0))) ≡ 45 ∷ []
function_writes = refl

indexed_outside : broken (with_instruction 33 (at 1 (op.LoadIndexed regions.Object))) ≡ 45 ∷ []
indexed_outside = refl

block_outside : broken (with_instruction 36 (at 1 (op.LoadBlock regions.Object 2))) ≡ 45 ∷ []
block_outside = refl

copy_from_outside : broken (with_instruction 41 (at 2 (op.Copy regions.Plain regions.Object 1))) ≡ 45 ∷ []
copy_from_outside = refl

function_writes_indexed : broken (with_instruction 8 (at 3 (op.StoreIndexed regions.Object))) ≡ 45 ∷ []
function_writes_indexed = refl

function_writes_block : broken (with_instruction 8 (at 3 (op.StoreBlock regions.Object 1))) ≡ 45 ∷ []
function_writes_block = refl

function_writes_copy : broken (with_instruction 8 (at 3 (op.Copy regions.Object regions.Plain 1))) ≡ 45 ∷ []
function_writes_copy = refl

-- 45: calls; what is called is not there, so nothing is known of depths behind it

call_of_none : broken (with_instruction 25 (at 1 (op.Call 6))) ≡ 45 ∷ []
call_of_none = refl

call_of_body : broken (with_instruction 25 (at 1 (op.Call 4))) ≡ 45 ∷ []
call_of_body = refl

call_into_object : broken (with_instruction 22 (at 1 (op.Call 0))) ≡ 45 ∷ []
call_into_object = refl

function_calls_procedure : broken (with_instruction 10 (at 2 (op.Call 0))) ≡ 45 ∷ []
function_calls_procedure = refl

call_into_another_object : broken (record (with_second (second_object None barriers.Closed)) { subprograms = put_at 1 (sub (ProtectedFunction 1) 12 0 1 0 3 ∷ []) kept.subprograms }) ≡ 45 ∷ []
call_into_another_object = refl

external_call_of_none : broken (with_instruction 22 (at 1 (op.ProtectedCall 6))) ≡ 45 ∷ []
external_call_of_none = refl

external_call_of_plain : broken (with_instruction 25 (at 1 (op.ProtectedCall 3))) ≡ 45 ∷ []
external_call_of_plain = refl

entry_call_of_none : broken (with_instruction 25 (at 1 (op.EntryCall 1))) ≡ 45 ∷ []
entry_call_of_none = refl

entry_call_without_entry : broken (record (with_second (second_object None barriers.Closed)) { instructions = put_at 25 (at 1 (op.EntryCall 1) ∷ []) kept.instructions }) ≡ 45 ∷ []
entry_call_without_entry = refl

entry_call_without_body : broken (record (with_second (second_object (Some 6) barriers.Open)) { instructions = put_at 25 (at 1 (op.EntryCall 1) ∷ []) kept.instructions }) ≡ 45 ∷ []
entry_call_without_body = refl

-- 45: labels and the numbers that stand in the tables

label_too_far : broken (with_instruction 26 (at 1 (op.PutLine 1))) ≡ 45 ∷ []
label_too_far = refl

subprogram_of_no_object : broken (with_subprogram 3 (sub (ProtectedFunction 1) 21 1 1 1 2)) ≡ 45 ∷ []
subprogram_of_no_object = refl

entry_without_body : broken (with_second (second_object (Some 6) barriers.Open)) ≡ 45 ∷ []
entry_without_body = refl

task_without_body : broken (with_task (task (codes "A") 5 6)) ≡ 45 ∷ []
task_without_body = refl

-- 46

begins_with_a_word : broken (with_instruction 30 (at 1 op.Negate)) ≡ 46 ∷ []
begins_with_a_word = refl

handler_without_exception : broken (with_rows (row 21 26 1 29 ∷ [])) ≡ 46 ∷ []
handler_without_exception = refl

operand_missing : broken (with_instruction 42 (at 0 op.Drop)) ≡ 46 ∷ []
operand_missing = refl

too_deep_before : broken (plain_image [] (body 4 0 0 ∷ []) (main_is 0) (row 0 1 0 2 ∷ []) (at 0 op.CheckBlocking ∷ at 0 op.Return ∷ at 1 op.Drop ∷ at 0 op.Return ∷ [])) ≡ 46 ∷ []
too_deep_before = refl

too_deep_after : broken (plain_image [] (body 3 0 0 ∷ []) (main_is 0) [] (at 0 (op.Push (pos 0)) ∷ at 1 op.Drop ∷ at 0 op.Return ∷ [])) ≡ 46 ∷ []
too_deep_after = refl

returns_too_much : broken (with_instruction 28 (at 1 op.Return)) ≡ 46 ∷ []
returns_too_much = refl

returns_too_little : broken (with_instruction 20 (at 0 op.Return)) ≡ 46 ∷ []
returns_too_little = refl

another_depth_behind : broken (with_instruction 26 (at 1 op.Negate)) ≡ 46 ∷ []
another_depth_behind = refl

another_depth_at_target : broken (with_instruction 16 (at 1 (op.JumpIfZero 18))) ≡ 46 ∷ []
another_depth_at_target = refl

call_without_parameter : broken (with_instruction 42 (at 0 (op.Call 3))) ≡ 46 ∷ []
call_without_parameter = refl

-- 47: counts

no_subprogram : broken (record kept { subprograms = []; tasks = []; objects = []; rows = []; instructions = [] }) ≡ 47 ∷ []
no_subprogram = refl

no_task : broken (record kept { tasks = [] }) ≡ 47 ∷ []
no_task = refl

three_exceptions : broken (record kept { exceptions = take 3 predefined }) ≡ 47 ∷ []
three_exceptions = refl

tasks_too_many : broken (record kept { tasks = replicate 66 (task (codes "A") 5 4) }) ≡ 47 ∷ []
tasks_too_many = refl

tasks_at_most : broken (record kept { tasks = replicate 65 (task (codes "A") 5 4) }) ≡ []
tasks_at_most = refl

objects_too_many : broken (record kept { objects = object_of_entry ∷ replicate 64 (second_object None barriers.Closed) }) ≡ 47 ∷ []
objects_too_many = refl

objects_at_most : broken (record kept { objects = object_of_entry ∷ replicate 63 (second_object None barriers.Closed) }) ≡ []
objects_at_most = refl

exceptions_too_many : broken (record kept { exceptions = predefined ++ replicate 33 (codes "BAD") }) ≡ 47 ∷ []
exceptions_too_many = refl

labels_too_many : broken (record kept { labels = replicate 1025 (codes "x") }) ≡ 47 ∷ []
labels_too_many = refl

plain_words_too_many : broken (record kept { plain_words = replicate 8191 (pos 0) }) ≡ 47 ∷ []
plain_words_too_many = refl

plain_words_at_most : broken (record kept { plain_words = replicate 8190 (pos 0) }) ≡ []
plain_words_at_most = refl

subprograms_too_many : has_counts (record kept { subprograms = replicate 194 (body 1 0 0) }) ≡ false
subprograms_too_many = refl

rows_too_many : has_counts (record kept { rows = replicate 4097 (row 0 1 0 0) }) ≡ false
rows_too_many = refl

-- 47: subprograms

parameters_beyond_locals : broken (plain_image [] (sub Plain 1 1 0 0 0 ∷ body 2 0 0 ∷ []) (main_is 1) [] (at 0 op.Return ∷ at 0 op.Return ∷ [])) ≡ 47 ∷ []
parameters_beyond_locals = refl

frame_too_long : broken (with_subprogram 5 (body 44 511 2)) ≡ 47 ∷ []
frame_too_long = refl

longest_frame : broken (with_subprogram 5 (body 44 510 2)) ≡ []
longest_frame = refl

task_with_parameter : broken (with_subprogram 4 (sub TaskBody 30 1 0 1 1)) ≡ 47 ∷ []
task_with_parameter = refl

task_with_result : broken (plain_image [] (sub TaskBody 2 0 1 0 1 ∷ []) (main_is 0) [] (at 0 (op.Push (pos 0)) ∷ at 1 op.Return ∷ [])) ≡ 47 ∷ []
task_with_result = refl

body_beside_entry : broken (record (with_object (record object_of_entry { entry = None; barrier = barriers.Closed })) { instructions = put_at 23 (at 0 op.CheckBlocking ∷ []) kept.instructions }) ≡ 47 ∷ []
body_beside_entry = refl

-- 47: objects and tasks

ceiling_too_high : broken (with_object (record object_of_entry { ceiling = 32 })) ≡ 47 ∷ []
ceiling_too_high = refl

highest_ceiling : broken (with_object (record object_of_entry { ceiling = 31 })) ≡ []
highest_ceiling = refl

entry_of_another_kind : broken (with_second (second_object (Some 3) barriers.Open)) ≡ 47 ∷ []
entry_of_another_kind = refl

entry_of_another_object : broken (with_second (second_object (Some 2) barriers.Open)) ≡ 47 ∷ []
entry_of_another_object = refl

barrier_word_too_far : broken (with_object (record object_of_entry { barrier = barriers.Word 2 })) ≡ 47 ∷ []
barrier_word_too_far = refl

open_without_entry : broken (with_second (second_object None barriers.Open)) ≡ 47 ∷ []
open_without_entry = refl

word_without_entry : broken (with_second (second_object None (barriers.Word 0))) ≡ 47 ∷ []
word_without_entry = refl

priority_too_high : broken (with_task (task (codes "A") 31 4)) ≡ 47 ∷ []
priority_too_high = refl

highest_priority : broken (with_task (task (codes "A") 30 4)) ≡ []
highest_priority = refl

task_in_a_procedure : broken (with_task (task (codes "A") 5 3)) ≡ 47 ∷ []
task_in_a_procedure = refl

-- 47: names and labels

task_in_lower_case : broken (with_task (task (codes "a") 5 4)) ≡ 47 ∷ []
task_in_lower_case = refl

reserved_name : broken (with_task (task (codes "UNTIL") 5 4)) ≡ 47 ∷ []
reserved_name = refl

underlines : broken (with_task (task (codes "A__B") 5 4)) ≡ 47 ∷ []
underlines = refl

underline_at_end : broken (with_task (task (codes "A_") 5 4)) ≡ 47 ∷ []
underline_at_end = refl

name_too_long : broken (with_task (task (replicate 41 65) 5 4)) ≡ 47 ∷ []
name_too_long = refl

longest_name : broken (with_task (task (replicate 40 65) 5 4)) ≡ []
longest_name = refl

other_first_exceptions : broken (record kept { exceptions = codes "PROGRAM_ERROR" ∷ codes "CONSTRAINT_ERROR" ∷ codes "STORAGE_ERROR" ∷ codes "TASKING_ERROR" ∷ [] }) ≡ 47 ∷ []
other_first_exceptions = refl

exception_with_reserved_name : broken (record kept { exceptions = predefined ++ codes "RAISE" ∷ [] }) ≡ 47 ∷ []
exception_with_reserved_name = refl

label_with_quotation_mark : broken (record kept { labels = (34 ∷ []) ∷ [] }) ≡ 47 ∷ []
label_with_quotation_mark = refl

label_with_space : broken (record kept { labels = codes "a b" ∷ [] }) ≡ 47 ∷ []
label_with_space = refl

empty_label : broken (record kept { labels = [] ∷ [] }) ≡ 47 ∷ []
empty_label = refl

label_too_long : broken (record kept { labels = replicate 41 33 ∷ [] }) ≡ 47 ∷ []
label_too_long = refl

-- 47: rows

unknown_exception : broken (with_rows (row 21 26 6 28 ∷ [])) ≡ 47 ∷ []
unknown_exception = refl

last_exception : broken (with_rows (row 21 26 5 28 ∷ [])) ≡ []
last_exception = refl

crossing_regions : broken (with_rows (row 21 24 1 28 ∷ row 23 26 1 28 ∷ [])) ≡ 47 ∷ []
crossing_regions = refl

neighbours : broken (with_rows (row 21 24 1 28 ∷ row 24 26 1 28 ∷ row 21 26 0 28 ∷ row 21 26 0 28 ∷ [])) ≡ []
neighbours = refl
