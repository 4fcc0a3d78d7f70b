-- The rules of an image, from the faults that its raw sections do not have.
use Rattle.std.proofs.Common.{◌≡◌, ℕ, ◌+◌, ◌≤◌, List, [], ◌++◌, length, true, Some, sym, ap, ◌∙◌, subst, arith}
use Rattle.std.specs.Prelude.{nat_le, slice_get, if◌then◌else◌}
use Rattle.std.specs.List.{list_all}
use Rattle.std.proofs.lemmas.Bool.{leb-true}
use Rattle.base.specs.Names.{is_identifier, is_label, is_name, predefined}
use Rattle.base.specs.declared.limits.TheConstants.{EXCEPTIONS, INSTRUCTIONS, LABELS, LABEL_LIMIT, NAME_LIMIT, OBJECTS, ROWS, SUBPROGRAMS, TASKS}
use Rattle.base.specs.declared.faults.TheConstants.{TABLES_DISAGREE}
use Rattle.image_loading.specs.Decoding.{sections_of, text_from}
use Rattle.image_loading.specs.FaultOrder.{ImageFaults}
use Rattle.image_loading.specs.Loading.{all_crossing_faults, attached_count_faults, attached_faults, attachment_part_faults, attachments_start, behind_object, behind_row, behind_task, behind_text, code_part_faults, code_start, count_faults, count_rule, crossing_faults, each, exception_faults, faults_as, few_words, head_faults, instruction_faults, is_exception, label_faults, labels_start, last_size_byte, names_start, object_faults, objects_start, place_faults, row_faults, rows_start, sections_faults, subprogram_faults, subprograms_start, table_faults, task_faults, tasks_start, text_byte, text_count_faults, text_faults, word_faults}
use Rattle.image_loading.specs.Reading.{Raw}
use Rattle.image.specs.Rules.{begins_with, has_counts, has_ends, is_within}
use Rattle.image_loading.proofs.Accepted.{all_from, append_none, begins_from, each_at, join, kept, map_at}
use Rattle.std.proofs.lemmas.Bool.{and_parts}

-- no part has a fault
pub record Clear (r : Raw) : Type 0 where
  pub counts : count_faults (sections_of r) ≡ []
  pub text_counts : text_count_faults (sections_of r) ≡ []
  pub words : word_faults r (sections_of r) ≡ []
  pub exceptions : each behind_text exception_faults 0 (names_start r) r.exceptions ≡ []
  pub labels : each behind_text label_faults 0 (labels_start r) r.labels ≡ []
  pub objects : each behind_object (object_faults (sections_of r) (subprograms_start r)) 0 (objects_start r) r.objects ≡ []
  pub subprograms : each (behind_row 13) (subprogram_faults (sections_of r) (has_ends (sections_of r)) (code_start r)) 0 (subprograms_start r) r.subprograms ≡ []
  pub tasks : each behind_task (task_faults (sections_of r)) 0 (tasks_start r) r.tasks ≡ []
  pub attached_count : attached_count_faults r ≡ []
  pub attachments : attached_faults (sections_of r) 0 (attachments_start r) r.attachments ≡ []
  pub rows : each (behind_row 8) (row_faults (sections_of r) (has_ends (sections_of r)) (code_start r)) 0 (rows_start r) r.rows ≡ []
  pub crossings : each (behind_row 8) (crossing_faults r.rows) 0 (rows_start r) r.rows ≡ []
  pub operands : each (behind_row 13) instruction_faults 0 (code_start r) r.instructions ≡ []
  pub places : (if has_ends (sections_of r) then each (behind_row 13) (place_faults (sections_of r) (code_start r)) 0 (code_start r) r.instructions else []) ≡ []

-- three lists
pub apart : (a b c : ImageFaults) → a ++ b ++ c ≡ [] → (a ≡ []) × (b ≡ []) × (c ≡ [])
apart a b c e = let p = append_none (a ++ b) c e in let q = append_none a b p.0 in (q.0, q.1, p.1)

pub clear : (r : Raw) → sections_faults r ≡ [] → Clear r
clear r e =
    let i = sections_of r in
    let w = append_none (faults_as r i) (all_crossing_faults r) e in
    let p = apart (head_faults r i ++ text_faults r) (table_faults r i ++ attachment_part_faults r i) (code_part_faults r i) w.0 in
    let q = append_none (head_faults r i) (text_faults r) p.0 in
    let h = apart (count_faults i) (text_count_faults i) (word_faults r i) q.0 in
    let t = append_none (each behind_text exception_faults 0 (names_start r) r.exceptions) (each behind_text label_faults 0 (labels_start r) r.labels) q.1 in
    let g = append_none (table_faults r i) (attachment_part_faults r i) p.1 in
    let v = append_none (attached_count_faults r) (attached_faults i 0 (attachments_start r) r.attachments) g.1 in
    let b = apart (each behind_object (object_faults i (subprograms_start r)) 0 (objects_start r) r.objects) (each (behind_row 13) (subprogram_faults i (has_ends i) (code_start r)) 0 (subprograms_start r) r.subprograms) (each behind_task (task_faults i) 0 (tasks_start r) r.tasks) g.0 in
    let c = apart (each (behind_row 8) (row_faults i (has_ends i) (code_start r)) 0 (rows_start r) r.rows) (each (behind_row 13) instruction_faults 0 (code_start r) r.instructions) (if has_ends i then each (behind_row 13) (place_faults i (code_start r)) 0 (code_start r) r.instructions else []) p.2 in
    record {
      counts = h.0;
      text_counts = h.1;
      words = h.2;
      exceptions = t.0;
      labels = t.1;
      objects = b.0;
      subprograms = b.1;
      tasks = b.2;
      attached_count = v.0;
      attachments = v.1;
      rows = c.0;
      crossings = w.1;
      operands = c.1;
      places = c.2;
    }

-- the faults of the element of a number
pub none_at : {X : Type 0} (behind : ℕ → X → ℕ) (faults : ℕ → ℕ → X → ImageFaults) (xs : List X) (b k : ℕ) (x : X) → each behind faults 0 b xs ≡ [] → slice_get xs k ≡ Some x → (c : ℕ) × (faults k c x ≡ [])
none_at behind faults xs b k x e is =
    let w = each_at behind faults xs 0 b k x e is in
    let s : 0 + k ≡ k = omega arith in
    (w.0, subst (λ v. faults v w.0 x ≡ []) s w.1)

-- Counts

counted : (byte least count most : ℕ) → count_rule byte least count most ≡ [] → is_within least count most ≡ true
counted byte least count most e = kept TABLES_DISAGREE byte (is_within least count most) e

at_most : (byte count most : ℕ) → count_rule byte 0 count most ≡ [] → nat_le count most ≡ true
at_most byte count most e = (and_parts (nat_le 0 count) (nat_le count most) (counted byte 0 count most e)).1

pub counts_kept : (r : Raw) → Clear r → has_counts (sections_of r) ≡ true
counts_kept r c =
    let i = sections_of r in
    let a = append_none (count_rule 6 1 (length i.instructions) INSTRUCTIONS ++ count_rule 8 1 (length i.subprograms) SUBPROGRAMS ++ count_rule 10 0 (length i.objects) OBJECTS) (count_rule 12 1 (length i.tasks) TASKS) c.counts in
    let b = apart (count_rule 6 1 (length i.instructions) INSTRUCTIONS) (count_rule 8 1 (length i.subprograms) SUBPROGRAMS) (count_rule 10 0 (length i.objects) OBJECTS) a.0 in
    let t = apart (count_rule 14 4 (length i.exceptions) EXCEPTIONS) (count_rule 16 0 (length i.rows) ROWS) (count_rule 18 0 (length i.labels) LABELS) c.text_counts in
    let w = kept TABLES_DISAGREE (last_size_byte 20 (objects_start r) r.objects) (few_words i) c.words in
    join _ _ (counted 6 1 (length i.instructions) INSTRUCTIONS b.0)
    (join _ _ (counted 8 1 (length i.subprograms) SUBPROGRAMS b.1)
    (join _ _ (counted 12 1 (length i.tasks) TASKS a.1)
    (join _ _ (counted 14 4 (length i.exceptions) EXCEPTIONS t.0)
    (join _ _ (at_most 10 (length i.objects) OBJECTS b.2) (join _ _ (at_most 16 (length i.rows) ROWS t.1) (join _ _ (at_most 18 (length i.labels) LABELS t.2) w))))))

-- Texts

pub same_text : (t : List ℕ) → nat_le (length t) NAME_LIMIT ≡ true → text_from t ≡ t
same_text t e = ap (λ b. if b then t else []) e

pub name_short : (t : List ℕ) → is_name t ≡ true → nat_le (length t) NAME_LIMIT ≡ true
name_short t e = (and_parts (nat_le (length t) NAME_LIMIT) _ (and_parts (is_identifier t) _ e).1).0

pub label_short : (t : List ℕ) → is_label t ≡ true → nat_le (length t) NAME_LIMIT ≡ true
label_short t e = (and_parts (nat_le (length t) LABEL_LIMIT) _ (and_parts (nat_le 1 (length t)) _ e).1).0

pub exception_at : (r : Raw) → Clear r → (k : ℕ) (t : List ℕ) → slice_get r.exceptions k ≡ Some t → is_exception k t ≡ true
exception_at r c k t is =
    let w = none_at behind_text exception_faults r.exceptions (names_start r) k t c.exceptions is in
    kept TABLES_DISAGREE (text_byte w.0 t) (is_exception k t) w.1

-- what is so of the exception of a number, decoded
exception_is : (r : Raw) → Clear r → (k : ℕ) (t : List ℕ) → slice_get (sections_of r).exceptions k ≡ Some t → is_exception k t ≡ true
exception_is r c k t is =
    let m = map_at text_from r.exceptions k t is in
    let e = exception_at r c k m.0 m.1 in
    let same = same_text m.0 (name_short m.0 (and_parts (is_name m.0) _ e).0) in
    subst (λ v. is_exception k v ≡ true) (sym same ∙ m.2) e

pub exceptions_kept : (r : Raw) → Clear r → list_all is_name (sections_of r).exceptions ≡ true
exceptions_kept r c = all_from is_name (sections_of r).exceptions (λ k t is. (and_parts (is_name t) _ (exception_is r c k t is)).0)

pub predefined_kept : (r : Raw) → Clear r → begins_with predefined (sections_of r).exceptions ≡ true
predefined_kept r c =
    let i = sections_of r in
    let t = apart (count_rule 14 4 (length i.exceptions) EXCEPTIONS) (count_rule 16 0 (length i.rows) ROWS) (count_rule 18 0 (length i.labels) LABELS) c.text_counts in
    let four : 4 ≤ length i.exceptions = leb-true 4 (length i.exceptions) (and_parts (nat_le 4 (length i.exceptions)) _ (counted 14 4 (length i.exceptions) EXCEPTIONS t.0)).0 in
    begins_from predefined i.exceptions four (λ k t is. (and_parts (is_name t) _ (exception_is r c k t is)).1)

pub labels_kept : (r : Raw) → Clear r → list_all is_label (sections_of r).labels ≡ true
labels_kept r c =
    all_from is_label (sections_of r).labels
    (λ k t is.
    let m = map_at text_from r.labels k t is in
    let w = none_at behind_text label_faults r.labels (labels_start r) k m.0 c.labels m.1 in
    let e = kept TABLES_DISAGREE (text_byte w.0 m.0) (is_label m.0) w.1 in
    subst (λ v. is_label v ≡ true) (sym (same_text m.0 (label_short m.0 e)) ∙ m.2) e)
