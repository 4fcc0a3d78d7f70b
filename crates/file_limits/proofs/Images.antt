-- How many bytes an image has.
use Rattle.std.proofs.Common.{◌≡◌, ◌<◌, ◌≤◌, ◌+◌, ◌-◌, ◌*◌, ◌∙◌, ℕ, zero, suc, ℤ, List, [], ◌∷◌, ◌++◌, length, Bool, true, false, ◌&&◌, nat_le, nat_lt, arith, rules, refl, ap}
use Rattle.std.specs.Prelude.{flat_map, sum_by}
use Rattle.std.specs.List.{list_all}
use Rattle.std.proofs.lemmas.List.{length-append}
use Rattle.std.proofs.lemmas.List.Sums.{sum_by-cons}
use Rattle.std.proofs.lemmas.Bool.{and_parts}
use Rattle.base.specs.Names.{is_identifier, is_label, is_name}
use Rattle.base.specs.declared.limits.TheConstants.{CHANNELS, EXCEPTIONS, INSTRUCTIONS, LABELS, LABEL_LIMIT, NAME_LIMIT, OBJECTS, ROWS, SUBPROGRAMS, TASKS, WORDS}
use Rattle.handlers.specs.declared.rows.Row.{Row}
use Rattle.image.specs.ObjectTable.{ObjectRow}
use Rattle.image.specs.RuleFacts.{Facts, facts}
use Rattle.image.specs.Rules.{IsWellFormed, are_attached, is_attached, is_task, is_within}
use Rattle.image.specs.Sections.{Sections, object_of}
use Rattle.image.specs.declared.attachments.Attachment.{Attachment}
use Rattle.image.specs.declared.instruction.Instr.{Instr}
use Rattle.image.specs.declared.objects.Barrier.{Barrier}
use Rattle.image.specs.declared.objects.Barrier.TheVariants.{Closed, Open, Word}
use Rattle.image.specs.declared.subprograms.Subprogram.{Subprogram}
use Rattle.image.specs.declared.tasks.Task.{Task}
use Rattle.image_format.specs.Bytes.{attached_count, attachment_bytes, barrier_bytes, bytes_of, code_bytes, data_bytes, half, header_bytes, instruction_bytes, name_bytes, object_bytes, row_bytes, subprogram_bytes, table_bytes, task_bytes, text, word}
use Rattle.file_limits.specs.declared.TheConstants.{IMAGE_BYTES}

-- ---- rows of one kind

each_bytes : {X : Type 0} (f : X → List ℕ) (k : ℕ) → ((x : X) → length (f x) ≤ k) → (xs : List X) → length (flat_map f xs) ≤ length xs * k
each_bytes f k each [] = omega arith
each_bytes f k each (x ∷ xs) =
    let one = each x in
    let others = each_bytes f k each xs in
    let joined = length-append (f x) (flat_map f xs) in
    omega (arith, one, others, joined)

tested_bytes : {X : Type 0} (f : X → List ℕ) (test : X → Bool) (k : ℕ) → ((x : X) → test x ≡ true → length (f x) ≤ k) → (xs : List X) → list_all test xs ≡ true
    → length (flat_map f xs) ≤ length xs * k
tested_bytes f test k each [] h = omega arith
tested_bytes f test k each (x ∷ xs) h =
    let parts = and_parts (test x) (list_all test xs) h in
    let one = each x parts.0 in
    let others = tested_bytes f test k each xs parts.1 in
    let joined = length-append (f x) (flat_map f xs) in
    omega (arith, one, others, joined)

at_most : (n m : ℕ) → nat_le n m ≡ true → n ≤ m
at_most n m h = search rules

within : (least n most : ℕ) → is_within least n most ≡ true → n ≤ most
within least n most h = at_most n most (and_parts (nat_le least n) (nat_le n most) h).1

-- ---- one row of each kind

half_bytes : (n : ℕ) → length (half n) ≡ 2
unfolding half
half_bytes n = refl

word_bytes : (x : ℤ) → length (word x) ≤ 8
unfolding word
word_bytes x = omega arith

name_length : (name : List ℕ) → is_name name ≡ true → length (text name) ≤ 41
name_length name h =
    let few = at_most (length name) NAME_LIMIT (and_parts (nat_le (length name) NAME_LIMIT) _ (and_parts (is_identifier name) _ h).1).0 in
    omega (arith, few)

label_length : (label : List ℕ) → is_label label ≡ true → length (text label) ≤ 41
label_length label h =
    let few = at_most (length label) LABEL_LIMIT (and_parts (nat_le (length label) LABEL_LIMIT) _ (and_parts (nat_le 1 (length label)) _ h).1).0 in
    omega (arith, few)

barrier_length : (b : Barrier) → length (barrier_bytes b) ≡ 3
unfolding half
barrier_length Closed = refl
barrier_length Open = refl
barrier_length (Word n) = refl

object_length : (o : ObjectRow) → length (object_bytes o) ≤ 8 + 8 * length o.words
unfolding half
object_length o =
    let words = each_bytes word 8 word_bytes o.words in
    let barrier = barrier_length o.barrier in
    let first = length-append (barrier_bytes o.barrier) (half (length o.words)) in
    let second = length-append (barrier_bytes o.barrier ++ half (length o.words)) (flat_map word o.words) in
    omega (arith, words, barrier, first, second)

objects_bytes : (objects : List ObjectRow) → length (flat_map object_bytes objects) ≤ length objects * 8 + 8 * sum_by (λ o. length o.words) objects
objects_bytes [] = omega arith
objects_bytes (o ∷ objects) =
    let one = object_length o in
    let others = objects_bytes objects in
    let joined = length-append (object_bytes o) (flat_map object_bytes objects) in
    let words = sum_by-cons (λ o. length o.words) o objects in
    omega (arith, one, others, joined, words)

subprogram_length : (s : Subprogram) → length (subprogram_bytes s) ≤ 13
unfolding half
subprogram_length s = omega arith

task_length : (i : Sections) (t : Task) → is_task i t ≡ true → length (task_bytes t) ≤ 44
unfolding half
task_length i t h =
    let name = name_length t.name (and_parts (is_name t.name) _ h).0 in
    let joined = length-append (text t.name) (t.priority ∷ half t.subprogram) in
    omega (arith, name, joined)

row_length : (r : Row) → length (row_bytes r) ≤ 8
unfolding half
row_length r = omega arith

attachment_length : (a : Attachment) → length (attachment_bytes a) ≤ 3
unfolding half
attachment_length a = omega arith

instruction_length : (x : Instr) → length (instruction_bytes x) ≤ 13
unfolding half word
instruction_length x = omega arith

-- channels rise, so there are as many at most as channels
few_attached : (i : Sections) (last : ℕ) (attachments : List Attachment) → last ≤ CHANNELS → are_attached i last attachments ≡ true → length attachments + last ≤ CHANNELS
few_attached i last [] under h = omega (arith, under)
few_attached i last (a ∷ rest) under h =
    let parts = and_parts (is_attached i last a) _ h in
    let above = and_parts (nat_lt last a.channel) _ parts.0 in
    let higher : last < a.channel = (let e = above.0 in search rules) in
    let below = at_most a.channel CHANNELS (and_parts (nat_le a.channel CHANNELS) _ above.1).0 in
    let others = few_attached i a.channel rest below parts.1 in
    omega (arith, higher, others)

-- ---- sections

header_length : (i : Sections) → length (header_bytes i) ≤ 24
unfolding header_bytes half
header_length i = let more = attached i.attachments in omega (arith, more)
  where
    attached : (attachments : List Attachment) → length (flat_map half (attached_count attachments)) ≤ 2
    attached [] = omega arith
    attached (a ∷ rest) = omega arith

names_length : (i : Sections) → list_all is_name i.exceptions ≡ true → list_all is_label i.labels ≡ true
    → length (name_bytes i) ≤ length i.exceptions * 41 + length i.labels * 41
unfolding name_bytes
names_length i names labels =
    let one = tested_bytes text is_name 41 name_length i.exceptions names in
    let two = tested_bytes text is_label 41 label_length i.labels labels in
    let joined = length-append (flat_map text i.exceptions) (flat_map text i.labels) in
    omega (arith, one, two, joined)

data_length : (i : Sections) → length (data_bytes i) ≤ 8 * (length i.plain_words + sum_by (λ o. length o.words) i.objects) + length i.objects * 8
unfolding data_bytes
data_length i =
    let one = each_bytes word 8 word_bytes i.plain_words in
    let two = objects_bytes i.objects in
    let joined = length-append (flat_map word i.plain_words) (flat_map object_bytes i.objects) in
    omega (arith, one, two, joined)

tables_length : (i : Sections) → list_all (is_task i) i.tasks ≡ true
    → length (table_bytes i) ≤ length i.subprograms * 13 + length i.tasks * 44 + length i.rows * 8 + length i.attachments * 3
unfolding table_bytes
tables_length i tasks =
    let one = each_bytes subprogram_bytes 13 subprogram_length i.subprograms in
    let two = tested_bytes task_bytes (is_task i) 44 (task_length i) i.tasks tasks in
    let three = each_bytes row_bytes 8 row_length i.rows in
    let four = each_bytes attachment_bytes 3 attachment_length i.attachments in
    let first = length-append (flat_map subprogram_bytes i.subprograms) (flat_map task_bytes i.tasks) in
    let second = length-append (flat_map subprogram_bytes i.subprograms ++ flat_map task_bytes i.tasks) (flat_map row_bytes i.rows) in
    let third = length-append (flat_map subprogram_bytes i.subprograms ++ flat_map task_bytes i.tasks ++ flat_map row_bytes i.rows) (flat_map attachment_bytes i.attachments) in
    omega (arith, one, two, three, four, first, second, third)

code_length : (i : Sections) → length (code_bytes i) ≤ length i.instructions * 13
unfolding code_bytes
code_length i = each_bytes instruction_bytes 13 instruction_length i.instructions

record AreCounted (i : Sections) : Type 0 where
  pub instructions : length i.instructions ≤ INSTRUCTIONS
  pub subprograms : length i.subprograms ≤ SUBPROGRAMS
  pub tasks : length i.tasks ≤ TASKS
  pub exceptions : length i.exceptions ≤ EXCEPTIONS
  pub objects : length i.objects ≤ OBJECTS
  pub rows : length i.rows ≤ ROWS
  pub labels : length i.labels ≤ LABELS
  pub words : length i.plain_words + sum_by (λ o. length o.words) i.objects ≤ WORDS

counted : (i : Sections) → Facts i → AreCounted i
counted i f =
    let a = and_parts (is_within 1 (length i.instructions) INSTRUCTIONS) _ f.counts in
    let b = and_parts (is_within 1 (length i.subprograms) SUBPROGRAMS) _ a.1 in
    let c = and_parts (is_within 1 (length i.tasks) TASKS) _ b.1 in
    let d = and_parts (is_within 4 (length i.exceptions) EXCEPTIONS) _ c.1 in
    let e = and_parts (nat_le (length i.objects) OBJECTS) _ d.1 in
    let g = and_parts (nat_le (length i.rows) ROWS) _ e.1 in
    let h = and_parts (nat_le (length i.labels) LABELS) _ g.1 in
    record {
      instructions = within 1 (length i.instructions) INSTRUCTIONS a.0;
      subprograms = within 1 (length i.subprograms) SUBPROGRAMS b.0;
      tasks = within 1 (length i.tasks) TASKS c.0;
      exceptions = within 4 (length i.exceptions) EXCEPTIONS d.0;
      objects = at_most (length i.objects) OBJECTS e.0;
      rows = at_most (length i.rows) ROWS g.0;
      labels = at_most (length i.labels) LABELS h.0;
      words = at_most (length i.plain_words + sum_by (λ o. length o.words) i.objects) WORDS h.1;
    }

pub image_ends : (i : Sections) → IsWellFormed i → length (bytes_of i) < IMAGE_BYTES
image_ends i w =
    let f = facts i w in
    let c = counted i f in
    let few = few_attached i 0 i.attachments (omega arith) f.attached in
    let header = header_length i in
    let names = names_length i f.names f.labels in
    let words = data_length i in
    let tables = tables_length i f.tasks in
    let code = code_length i in
    let first = length-append (header_bytes i) (name_bytes i) in
    let second = length-append (header_bytes i ++ name_bytes i) (data_bytes i) in
    let third = length-append (header_bytes i ++ name_bytes i ++ data_bytes i) (table_bytes i) in
    let fourth = length-append (header_bytes i ++ name_bytes i ++ data_bytes i ++ table_bytes i) (code_bytes i) in
    omega (arith, few, header, names, words, tables, code, first, second, third, fourth, c.instructions, c.subprograms, c.tasks, c.exceptions, c.objects, c.rows, c.labels, c.words)
