-- The bytes of an image are read back as its sections, and break no rule.
use Rattle.std.proofs.Common.{◌≡◌, ℕ, ◌+◌, ◌≤◌, List, [], ◌∷◌, ◌++◌, length, map, min, take, drop, Bool, true, false, not, ◌&&◌, ◌||◌, Option, Some, refl, sym, ap, ◌∙◌, arith, append_assoc, ⊎_elim}
use Rattle.std.specs.Prelude.{flat_map, sum_by, bytes_eq, if◌then◌else◌}
use Rattle.std.proofs.Math.Seq.{take-append_seam}
use Rattle.std.proofs.lemmas.List.{append-nil, length-append}
use Rattle.std.proofs.lemmas.List.Sums.{sum_by-cons}
use Rattle.std.proofs.lemmas.Slice.Eq.{bytes_eq-Decides}
use Rattle.std.proofs.lemmas.Option.{none-some}
use Rattle.base.specs.Names.{is_label, is_name}
use Rattle.base.specs.declared.faults.TheConstants.{TABLES_DISAGREE, WRONG_HEADER}
use Rattle.image.specs.ObjectTable.{ObjectRow}
use Rattle.image.specs.Rules.{IsWellFormed, has_ends, has_operands, is_task}
use Rattle.image.specs.Sections.{Sections}
use Rattle.image.specs.declared.attachments.Attachment.{Attachment}
use Rattle.image_format.proofs.Channels.{few_attached}
use Rattle.image_format.specs.Bytes.{attached_count, attachment_bytes, bytes_of, code_bytes, data_bytes, half, header_bytes, instruction_bytes, name_bytes, object_bytes, row_bytes, subprogram_bytes, table_bytes, task_bytes, text, version_of, word}
use Rattle.image_loading.specs.Decoding.{instruction_of, object_from, sections_of, subprogram_from, task_from, text_from}
use Rattle.image_loading.specs.FaultOrder.{first_of, rule}
use Rattle.image_loading.specs.Loaded.{ComesFrom}
use Rattle.image_loading.specs.Loading.{agrees, all_crossing_faults, attached_count_faults, attached_faults, attachment_part_faults, attachments_start, behind_object, behind_row, behind_task, behind_text, code_part_faults, code_start, count_faults, crossing_faults, each, exception_faults, faults_as, few_words, has_version, head_faults, header_faults, image_faults, instruction_faults, label_faults, labels_start, last_size_byte, magic, magic_and_version, names_start, object_faults, objects_start, place_faults, read_faults, row_faults, rows_start, sections_faults, subprogram_faults, subprograms_start, table_faults, task_faults, tasks_start, text_count_faults, text_faults, unless_faulty, word_faults}
use Rattle.image_loading.specs.NumberRanges.{AttachmentFits, EachOf, IsHalf, IsWord, InstructionFits, ObjectFits, RowFits, SectionsFit, SubprogramFits, TaskNumbersFit}
use Rattle.image_loading.specs.Reading.{Raw, ByteReading, and_then, counts_row, half_at, made, read_attached_count, read_attachment, read_counts, read_image, read_instruction, read_many, read_object, read_raw, read_row, read_subprogram, read_task, read_text, read_word}
use Rattle.image_loading.specs.declared.reading.Counts.{Counts}
use Rattle.image_loading.proofs.AcceptedSections.{label_short, name_short, same_text}
use Rattle.image_loading.proofs.DecodedBack as decoded
use Rattle.image.specs.RuleFacts.{Facts, facts}
use Rattle.image_loading.proofs.NoFaults.{attached_count_none, attached_none, counted, crossings_none, exceptions_none, labels_none, none_in, none_of, none_three, none_two, objects_none, operands_none, places_none, rows_none, small_entry, subprograms_none, tasks_none, unbroken, unbroken_where}
use Rattle.image_loading.proofs.ReadBack.{ObjectFitsWhole, attachment_back, bytes_back, half_is, instruction_back, many_back, map_itself, object_back, raw_instruction, raw_object, raw_subprogram, raw_task, row_back, subprogram_back, task_back, text_back, word_back}
use Rattle.std.proofs.lemmas.Bool.{and_parts}
use Rattle.image.specs.RuleLaws.{list_all-at}
use Rattle.image_loading.proofs.ReadSteps.{raw_with, then_attachments, then_instructions, then_labels, then_objects, then_rows, then_subprograms, then_tasks, then_words}
use Rattle.image_loading.proofs.Spelled.{some_pair, take_all}
use Rattle.image_loading.proofs.Counts.{counts_fit}

abbrev raw_of : Sections → Raw
raw_of i = record {
  version = version_of i.attachments;
  exceptions = i.exceptions;
  labels = i.labels;
  plain_words = i.plain_words;
  objects = map raw_object i.objects;
  subprograms = map raw_subprogram i.subprograms;
  tasks = map raw_task i.tasks;
  rows = i.rows;
  attachments = i.attachments;
  instructions = map raw_instruction i.instructions;
}

-- What the numbers stand for

same_sections : (i : Sections) → Facts i → sections_of (raw_of i) ≡ i
same_sections i f = λ j. record {
  exceptions = decoded.map_kept text_from i.exceptions (λ k t is. same_text t (name_short t (list_all-at is_name i.exceptions k t f.names is))) j;
  labels = decoded.map_kept text_from i.labels (λ k t is. same_text t (label_short t (list_all-at is_label i.labels k t f.labels is))) j;
  plain_words = i.plain_words;
  objects = decoded.map_back raw_object object_from i.objects (λ k o is. decoded.object_back o (small_entry i f k o is)) j;
  subprograms = decoded.map_back raw_subprogram subprogram_from i.subprograms (λ k s is. decoded.subprogram_back s) j;
  tasks = decoded.map_back raw_task task_from i.tasks (λ k t is. decoded.task_back t (and_parts (is_name t.name) _ (list_all-at (is_task i) i.tasks k t f.tasks is)).0) j;
  rows = i.rows;
  attachments = i.attachments;
  instructions = decoded.map_back raw_instruction instruction_of i.instructions (λ k x is. decoded.instruction_back x (list_all-at (λ x. has_operands x.operation) i.instructions k x f.operands is)) j;
}

-- Reading

abbrev counts_of : Sections → Counts
counts_of i = record {
  version = version_of i.attachments;
  instructions = length i.instructions;
  subprograms = length i.subprograms;
  objects = length i.objects;
  tasks = length i.tasks;
  exceptions = length i.exceptions;
  rows = length i.rows;
  labels = length i.labels;
  plain_words = length i.plain_words;
  attachments = length i.attachments;
}

record CountsFit (i : Sections) : Type 0 where
  instructions : IsHalf (length i.instructions)
  subprograms : IsHalf (length i.subprograms)
  objects : IsHalf (length i.objects)
  tasks : IsHalf (length i.tasks)
  exceptions : IsHalf (length i.exceptions)
  rows : IsHalf (length i.rows)
  labels : IsHalf (length i.labels)
  plain_words : IsHalf (length i.plain_words)
  attachments : IsHalf (length i.attachments)
  words : sum_by (λ o. length o.words) i.objects ≤ 8192

counts_small : (i : Sections) → IsWellFormed i → CountsFit i
counts_small i w =
    let f = counts_fit i w in
    record {
      instructions = let le = f.instructions in omega (arith, le);
      subprograms = let le = f.subprograms in omega (arith, le);
      objects = let le = f.objects in omega (arith, le);
      tasks = let le = f.tasks in omega (arith, le);
      exceptions = let le = f.exceptions in omega (arith, le);
      rows = let le = f.rows in omega (arith, le);
      labels = let le = f.labels in omega (arith, le);
      plain_words = let le = f.words in omega (arith, le);
      attachments = let le = few_attached i w in omega (arith, le);
      words = let le = f.words in omega (arith, le);
    }

version_small : (attachments : List Attachment) → IsHalf (version_of attachments)
version_small [] = omega arith
version_small (a ∷ more) = omega arith

-- the magic, the version and the counts that each version has
abbrev header_front : Sections → List ℕ
header_front i =
    65 ∷ 82 ∷ 86 ∷ 78 ∷ flat_map half (version_of i.attachments ∷ length i.instructions ∷ length i.subprograms ∷ length i.objects ∷ length i.tasks ∷ length
    i.exceptions ∷ length i.rows ∷ length i.labels ∷ length i.plain_words ∷ [])

same_counts : (i : Sections) → CountsFit i → counts_row (header_front i) (length i.attachments) ≡ counts_of i
unfolding half
same_counts i f =
    let h = header_front i in
    λ j. record {
      version = half_is h 4 (version_of i.attachments) (drop 6 h) refl (version_small i.attachments) j;
      instructions = half_is h 6 (length i.instructions) (drop 8 h) refl f.instructions j;
      subprograms = half_is h 8 (length i.subprograms) (drop 10 h) refl f.subprograms j;
      objects = half_is h 10 (length i.objects) (drop 12 h) refl f.objects j;
      tasks = half_is h 12 (length i.tasks) (drop 14 h) refl f.tasks j;
      exceptions = half_is h 14 (length i.exceptions) (drop 16 h) refl f.exceptions j;
      rows = half_is h 16 (length i.rows) (drop 18 h) refl f.rows j;
      labels = half_is h 18 (length i.labels) (drop 20 h) refl f.labels j;
      plain_words = half_is h 20 (length i.plain_words) [] refl f.plain_words j;
      attachments = length i.attachments;
    }

ninth_back : (attachments : List Attachment) → IsHalf (length attachments) → (rest : List ℕ)
    → read_attached_count (version_of attachments) (flat_map half (attached_count attachments) ++ rest) ≡ Some (length attachments, rest)
unfolding read_attached_count half
ninth_back [] small rest = refl
ninth_back (a ∷ more) small rest =
    let n = length (a ∷ more) in
    ap (made (λ row. half_at row 0)) (bytes_back 2 (half n ++ []) rest refl) ∙ ap (λ v. Some (v, rest)) (half_is (half n ++ []) 0 n [] refl small)

counts_back : (i : Sections) → CountsFit i → (rest : List ℕ) → read_counts (header_bytes i ++ rest) ≡ Some (counts_of i, rest)
unfolding read_counts header_bytes half
counts_back i f rest =
    let front = header_front i in
    let ninth = flat_map half (attached_count i.attachments) ++ rest in
    let next : List ℕ → ByteReading Counts = λ row left. made (counts_row row) (read_attached_count (half_at row 4) left) in
    let version : half_at front 4 ≡ version_of i.attachments = half_is front 4 (version_of i.attachments) (drop 6 front) refl (version_small i.attachments) in
    ap (λ r. and_then r next) (bytes_back 22 front ninth refl)
    ∙ (ap (made (counts_row front)) (ap (λ v. read_attached_count v ninth) version ∙ ninth_back i.attachments f.attachments rest)
    ∙ ap (λ v. Some (v, rest)) (same_counts i f))

each_any : {X : Type 0} (xs : List X) → EachOf (λ x. Unit {0}) xs
each_any [] = tt
each_any (x ∷ xs) = (tt, each_any xs)

each_whole : (os : List ObjectRow) → EachOf ObjectFits os → sum_by (λ o. length o.words) os ≤ 8192 → EachOf ObjectFitsWhole os
each_whole [] fit le = tt
each_whole (o ∷ os) fit le =
    let split : sum_by (λ o. length o.words) (o ∷ os) ≡ length o.words + sum_by (λ o. length o.words) os = sum_by-cons (λ o. length o.words) o os in
    (record { numbers = fit.0; size = omega (arith, le, split) }, each_whole os fit.1 (omega (arith, le, split)))

texts_back : (ts : List (List ℕ)) (rest : List ℕ) → read_many read_text (length ts) (flat_map text ts ++ rest) ≡ Some (ts, rest)
texts_back ts rest = many_back read_text text (λ t. t) (λ t. Unit {0}) text_back ts (each_any ts) rest ∙ ap (λ v. Some (v, rest)) (map_itself ts)

module _ (i : Sections) (w : IsWellFormed i) (n : SectionsFit i) where
  small : CountsFit i
  small = counts_small i w

  abbrev code : List ℕ
  code = flat_map instruction_bytes i.instructions ++ []

  abbrev attachments : List ℕ
  attachments = flat_map attachment_bytes i.attachments ++ code

  abbrev rows : List ℕ
  rows = flat_map row_bytes i.rows ++ attachments

  abbrev tasks : List ℕ
  tasks = flat_map task_bytes i.tasks ++ rows

  abbrev subprograms : List ℕ
  subprograms = flat_map subprogram_bytes i.subprograms ++ tasks

  abbrev objects : List ℕ
  objects = flat_map object_bytes i.objects ++ subprograms

  abbrev words : List ℕ
  words = flat_map word i.plain_words ++ objects

  abbrev labels : List ℕ
  labels = flat_map text i.labels ++ words

  abbrev names : List ℕ
  names = flat_map text i.exceptions ++ labels

  abbrev raw : Raw
  raw = raw_of i

  abbrev c : Counts
  c = counts_of i

  abbrev Whole : Option (Raw × List ℕ) → Type 0
  Whole read = read ≡ Some (raw_of i, [])

  back8 : Whole (then_instructions c i.exceptions i.labels i.plain_words raw.objects raw.subprograms raw.tasks i.rows i.attachments code)
  back8 =
      ap (made (raw_with (version_of i.attachments) i.exceptions i.labels i.plain_words raw.objects raw.subprograms raw.tasks i.rows i.attachments))
      (many_back read_instruction instruction_bytes raw_instruction InstructionFits instruction_back i.instructions n.instructions [])

  back7 : Whole (then_attachments c i.exceptions i.labels i.plain_words raw.objects raw.subprograms raw.tasks i.rows attachments)
  back7 =
      ap (λ r. and_then r (then_instructions c i.exceptions i.labels i.plain_words raw.objects raw.subprograms raw.tasks i.rows))
      (many_back read_attachment attachment_bytes (λ a. a) AttachmentFits attachment_back i.attachments n.attachments code
      ∙ ap (λ v. Some (v, code)) (map_itself i.attachments))
      ∙ back8

  back6 : Whole (then_rows c i.exceptions i.labels i.plain_words raw.objects raw.subprograms raw.tasks rows)
  back6 =
      ap (λ r. and_then r (then_attachments c i.exceptions i.labels i.plain_words raw.objects raw.subprograms raw.tasks))
      (many_back read_row row_bytes (λ r. r) RowFits row_back i.rows n.rows attachments ∙ ap (λ v. Some (v, attachments)) (map_itself i.rows))
      ∙ back7

  back5 : Whole (then_tasks c i.exceptions i.labels i.plain_words raw.objects raw.subprograms tasks)
  back5 =
      ap (λ r. and_then r (then_rows c i.exceptions i.labels i.plain_words raw.objects raw.subprograms))
      (many_back read_task task_bytes raw_task TaskNumbersFit task_back i.tasks n.tasks rows)
      ∙ back6

  back4 : Whole (then_subprograms c i.exceptions i.labels i.plain_words raw.objects subprograms)
  back4 =
      ap (λ r. and_then r (then_tasks c i.exceptions i.labels i.plain_words raw.objects))
      (many_back read_subprogram subprogram_bytes raw_subprogram SubprogramFits subprogram_back i.subprograms n.subprograms tasks)
      ∙ back5

  back3 : Whole (then_objects c i.exceptions i.labels i.plain_words objects)
  back3 =
      ap (λ r. and_then r (then_subprograms c i.exceptions i.labels i.plain_words))
      (many_back read_object object_bytes raw_object ObjectFitsWhole object_back i.objects (each_whole i.objects n.objects small.words) subprograms)
      ∙ back4

  back2 : Whole (then_words c i.exceptions i.labels words)
  back2 =
      ap (λ r. and_then r (then_objects c i.exceptions i.labels))
      (many_back read_word word (λ z. z) IsWord word_back i.plain_words n.plain_words objects ∙ ap (λ v. Some (v, objects)) (map_itself i.plain_words))
      ∙ back3

  back1 : Whole (then_labels c i.exceptions labels)
  back1 = ap (λ r. and_then r (then_words c i.exceptions)) (texts_back i.labels words) ∙ back2

  back0 : Whole (read_raw c names)
  unfolding read_raw
  back0 = ap (λ r. and_then r (then_labels c)) (texts_back i.exceptions labels) ∙ back1

  whole : read_image (header_bytes i ++ names) ≡ Some (raw_of i, [])
  unfolding read_image
  whole = ap (λ r. and_then r read_raw) (counts_back i small names) ∙ back0

joined : (h e l w o s t r a c : List ℕ)
    → ((((h ++ (e ++ l)) ++ (w ++ o)) ++ (((s ++ t) ++ r) ++ a)) ++ c) ≡ h ++ (e ++ (l ++ (w ++ (o ++ (s ++ (t ++ (r ++ (a ++ (c ++ [])))))))))
joined h e l w o s t r a c =
    let end_ = (((s ++ t) ++ r) ++ a) ++ c in
    append_assoc ((h ++ (e ++ l)) ++ (w ++ o)) (((s ++ t) ++ r) ++ a) c
    ∙ (append_assoc (h ++ (e ++ l)) (w ++ o) end_
    ∙ (append_assoc h (e ++ l) ((w ++ o) ++ end_)
    ∙ ap (λ v. h ++ v)
    (append_assoc e l ((w ++ o) ++ end_)
    ∙ ap (λ v. e ++ (l ++ v))
    (append_assoc w o end_
    ∙ ap (λ v. w ++ (o ++ v))
    (append_assoc ((s ++ t) ++ r) a c
    ∙ (append_assoc (s ++ t) r (a ++ c)
    ∙ (append_assoc s t (r ++ (a ++ c)) ∙ ap (λ v. s ++ (t ++ (r ++ (a ++ v)))) (sym (append-nil c)))))))))

apart : (i : Sections) (w : IsWellFormed i) (n : SectionsFit i) → bytes_of i ≡ header_bytes i ++ names i w n
unfolding name_bytes data_bytes table_bytes code_bytes
apart i w n =
    joined (header_bytes i) (flat_map text i.exceptions) (flat_map text i.labels) (flat_map word i.plain_words) (flat_map object_bytes i.objects)
    (flat_map subprogram_bytes i.subprograms) (flat_map task_bytes i.tasks) (flat_map row_bytes i.rows) (flat_map attachment_bytes i.attachments)
    (flat_map instruction_bytes i.instructions)

read_back : (i : Sections) → IsWellFormed i → SectionsFit i → read_image (bytes_of i) ≡ Some (raw_of i, [])
read_back i w n = ap read_image (apart i w n) ∙ whole i w n

-- Faults

no_faults_as : (i : Sections) → IsWellFormed i → Facts i → faults_as (raw_of i) i ≡ []
no_faults_as i w f =
    let r = raw_of i in
    let code = code_start r in
    let few = counted i f in
    none_three (head_faults r i ++ text_faults r) (table_faults r i ++ attachment_part_faults r i) (code_part_faults r i)
    (none_two (head_faults r i) (text_faults r)
    (none_three (count_faults i) (text_count_faults i) (word_faults r i) few.first few.second (unbroken TABLES_DISAGREE (last_size_byte 20 (objects_start r) r.objects) (few_words i) few.words))
    (none_two (each behind_text exception_faults 0 (names_start r) r.exceptions) (each behind_text label_faults 0 (labels_start r) r.labels)
    (none_in behind_text exception_faults i.exceptions (names_start r) (exceptions_none i f))
    (none_in behind_text label_faults i.labels (labels_start r) (labels_none i f))))
    (none_two (table_faults r i) (attachment_part_faults r i)
    (none_three (each behind_object (object_faults i (subprograms_start r)) 0 (objects_start r) r.objects) (each (behind_row 13) (subprogram_faults i (has_ends i) code) 0 (subprograms_start r) r.subprograms) (each behind_task (task_faults i) 0 (tasks_start r) r.tasks)
    (none_of raw_object behind_object (object_faults i (subprograms_start r)) i.objects (objects_start r) (objects_none i f (subprograms_start r)))
    (none_of raw_subprogram (behind_row 13) (subprogram_faults i (has_ends i) code) i.subprograms (subprograms_start r) (subprograms_none i f code))
    (none_of raw_task behind_task (task_faults i) i.tasks (tasks_start r) (tasks_none i f)))
    (none_two (attached_count_faults r) (attached_faults i 0 (attachments_start r) r.attachments) (attached_count_none i.attachments (few_attached i w))
    (attached_none i i.attachments 0 (attachments_start r) f.attached)))
    (none_three (each (behind_row 8) (row_faults i (has_ends i) code) 0 (rows_start r) r.rows) (each (behind_row 13) instruction_faults 0 code r.instructions) (if has_ends i then each (behind_row 13) (place_faults i code) 0 code r.instructions else [])
    (none_in (behind_row 8) (row_faults i (has_ends i) code) i.rows (rows_start r) (rows_none i f code))
    (none_of raw_instruction (behind_row 13) instruction_faults i.instructions code (operands_none i f))
    (ap (λ b. if b then each (behind_row 13) (place_faults i code) 0 code r.instructions else []) f.ends
    ∙ none_of raw_instruction (behind_row 13) (place_faults i code) i.instructions code (places_none i f code)))

no_sections_faults : (i : Sections) → IsWellFormed i → Facts i → sections_faults (raw_of i) ≡ []
no_sections_faults i w f =
    let r = raw_of i in
    none_two (faults_as r (sections_of r)) (all_crossing_faults r) (ap (faults_as r) (same_sections i f) ∙ no_faults_as i w f)
    (none_in (behind_row 8) (crossing_faults i.rows) i.rows (rows_start r) (crossings_none i f))

equal_bytes : (xs : List ℕ) → bytes_eq xs xs ≡ true
equal_bytes xs = (bytes_eq-Decides xs xs).1 refl

agrees_front : (front rest : List ℕ) → agrees front (front ++ rest) ≡ true
agrees_front front rest =
    let whole : min (length front) (length (front ++ rest)) ≡ length front = omega (arith, length-append front rest) in
    ap (λ n. bytes_eq (take n front) (take n (front ++ rest))) whole ∙ ((λ j. bytes_eq (take_all front j) (take-append_seam front rest j)) ∙ equal_bytes front)

either_agrees : (a b : Bool) → b ≡ true → (a || b) ≡ true
either_agrees true b e = refl
either_agrees false b e = e

has_either : (attachments : List Attachment) (rest : List ℕ) → has_version (65 ∷ 82 ∷ 86 ∷ 78 ∷ half (version_of attachments) ++ rest) ≡ true
unfolding half
has_either [] rest =
    let b = magic_and_version 1 ++ rest in ap (λ v. v || agrees (magic_and_version 2) b) (agrees_front (magic_and_version 1) rest)
has_either (a ∷ more) rest =
    let b = magic_and_version 2 ++ rest in
    either_agrees (agrees (magic_and_version 1) b) (agrees (magic_and_version 2) b) (agrees_front (magic_and_version 2) rest)

no_header_faults : (i : Sections) → header_faults (bytes_of i) ≡ []
unfolding header_bytes half
no_header_faults i =
    let b = bytes_of i in
    none_two (rule WRONG_HEADER 0 (not (agrees magic b))) (rule WRONG_HEADER 4 (agrees magic b && not (has_version b)))
    (unbroken WRONG_HEADER 0 (agrees magic b) (agrees_front magic (drop 4 b)))
    (unbroken_where WRONG_HEADER 4 (agrees magic b) (has_version b) (has_either i.attachments (drop 6 b)))

no_image_faults : (i : Sections) → IsWellFormed i → SectionsFit i → image_faults (bytes_of i) ≡ []
no_image_faults i w n =
    let b = bytes_of i in
    ap (λ f. unless_faulty f (read_faults b (read_image b))) (no_header_faults i) ∙ (ap (read_faults b) (read_back i w n) ∙ no_sections_faults i w (facts i w))

pub comes_back : (i : Sections) → IsWellFormed i → SectionsFit i → ComesFrom (bytes_of i) i
comes_back i w n = record {
  loaded = record { faultless = no_image_faults i w n; raw = raw_of i; read = read_back i w n; same = sym (same_sections i (facts i w)) };
  only = λ other l.
      let pair = some_pair (l.raw, []) (raw_of i, []) (sym l.read ∙ read_back i w n) in
      l.same ∙ (ap (λ p. sections_of p.0) pair ∙ same_sections i (facts i w));
  refused = λ fault r. ⊎_elim (λ m. m) (λ e. absurd (none-some fault (ap first_of (sym (no_image_faults i w n)) ∙ e))) r;
}
