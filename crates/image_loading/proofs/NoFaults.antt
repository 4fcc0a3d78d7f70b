-- A well-formed image breaks no rule in its bytes.
use Rattle.std.proofs.Common.{◌≡◌, ℕ, zero, suc, ◌+◌, ◌*◌, ◌-◌, ◌<◌, ◌≤◌, ℤ, pos, negsuc, List, [], ◌∷◌, ◌++◌, length, map, take, Bool, true, false, not, ◌&&◌, ◌||◌, Option, Some, None, refl, sym, ap, ◌∙◌, subst, arith, ⊎_elim}
use Rattle.std.specs.Prelude.{bytes_eq, int_le, is_some, nat_eq, nat_le, nat_lt, slice_get, unwrap_or, if◌then◌else◌}
use Rattle.std.specs.List.{list_all}
use Rattle.std.proofs.lemmas.Bool.{le-leb, lt-ltb, true≢false, leb-true, ltb-true}
use Rattle.std.proofs.lemmas.Bool.Decides.{eqb_tells, leb_tells}
use Rattle.std.proofs.lemmas.Option.{none-some, same_Some, slice_get_within}
use Rattle.base.specs.Names.{is_label, is_name, predefined}
use Rattle.base.specs.declared.faults.TheConstants.{DEPTHS_DISAGREE, JUMP_OUTSIDE, NAMED_THING_MISSING, OPERAND_OUT_OF_RANGE, TABLES_DISAGREE}
use Rattle.base.specs.declared.limits.TheConstants.{CEILING, CHANNELS, EXCEPTIONS, FRAME_WORDS, INSTRUCTIONS, LABELS, OBJECTS, ROWS, SUBPROGRAMS, TASKS, TASK_PRIORITY}
use Rattle.handlers.specs.Nesting.{all_nested, are_nested}
use Rattle.handlers.specs.declared.rows.Row.{Row}
use Rattle.image.specs.ObjectTable.{ObjectRow}
use Rattle.image.specs.Operations.{called, goes_on, jump_target, taken_by}
use Rattle.image.specs.Rules.{all_begun, are_attached, begins_with, covers_places, depth_after, has_body, has_depth, has_effect, has_ends, has_entry, has_object, has_operands, in_holder, is_attached, is_barrier, is_closed, is_closed_barrier, is_entry_body_of, is_entry_of_object, is_object, is_return, is_row_within, is_subprogram, is_task, is_task_body, is_within, jumps_within, keeps_depth, last_end, leaves_depth, may_handle, names_things, none_or, some_and}
use Rattle.image.specs.Scalars.{are_equal}
use Rattle.image.specs.Sections.{Sections, end_of, first_place, holder, object_of}
use Rattle.image.specs.declared.attachments.Attachment.{Attachment}
use Rattle.image.specs.declared.instruction.Instr.{Instr}
use Rattle.image.specs.declared.subprograms.Kind.{Kind}
use Rattle.image.specs.declared.subprograms.Kind.TheVariants.{Plain, ProtectedProcedure, ProtectedFunction, EntryBody, TaskBody}
use Rattle.image.specs.declared.subprograms.Subprogram.{Subprogram}
use Rattle.image.specs.declared.tasks.Task.{Task}
use Rattle.image_format.specs.Bytes.{address_of, constant_of, kind_number, version_of}
use Rattle.image_loading.specs.Decoding.{instruction_of}
use Rattle.image_loading.specs.FaultOrder.{ImageFaults, after, rule}
use Rattle.image_loading.specs.Loading.{attached_faults, attachment_faults, barrier_faults, barrier_number, body_faults, code_faults, count_faults, count_rule, crossing_faults, decoded_faults, each, effect_faults, entry_body_faults, entry_called_faults, entry_faults, exception_faults, few_words, handler_faults, has_barrier, instruction_faults, is_end, is_exception, jump_faults, kind_faults, label_faults, may_use_object, names_object, object_faults, object_of_kind, operand_faults, operation_faults, place_faults, row_faults, size_faults, subprogram_faults, task_faults, text_byte, text_count_faults, word_of_barrier}
use Rattle.image_loading.proofs.Accepted.{first_begin, join, nested_either_way}
use Rattle.image_loading.proofs.DecodedBack.{instruction_back, object_back, operation_back, subprogram_back}
use Rattle.image_loading.proofs.ReadBack.{raw_instruction, raw_object, raw_subprogram, raw_task}
use Rattle.std.proofs.lemmas.Bool.{and_parts, eqb-true}
use Rattle.image.specs.RuleFacts.{Facts}
use Rattle.image.specs.RuleLaws.{all_begun-at, list_all-at, none_or-at, placed-at, rises, some_and-true}

-- Rules that are kept

pub unbroken : (n p : ℕ) (b : Bool) → b ≡ true → rule n p (not b) ≡ []
unbroken n p b e = ap (λ v. rule n p (not v)) e

pub unbroken_where : (n p : ℕ) (a b : Bool) → b ≡ true → rule n p (a && not b) ≡ []
unbroken_where n p true b e = unbroken n p b e
unbroken_where n p false b e = refl

unbroken_if : (n p : ℕ) (a b : Bool) → (not a || b) ≡ true → rule n p (a && not b) ≡ []
unbroken_if n p true b e = unbroken n p b e
unbroken_if n p false b e = refl

-- no fault in two lists, in three
pub none_two : (a b : ImageFaults) → a ≡ [] → b ≡ [] → a ++ b ≡ []
none_two a b p q = λ j. p j ++ q j

pub none_three : (a b c : ImageFaults) → a ≡ [] → b ≡ [] → c ≡ [] → a ++ b ++ c ≡ []
none_three a b c p q r = λ j. p j ++ q j ++ r j

pub none_four : (a b c d : ImageFaults) → a ≡ [] → b ≡ [] → c ≡ [] → d ≡ [] → a ++ b ++ c ++ d ≡ []
none_four a b c d p q r s = λ j. p j ++ q j ++ r j ++ s j

none_from : {X Y : Type 0} (of : X → Y) (behind : ℕ → Y → ℕ) (faults : ℕ → ℕ → Y → ImageFaults) (xs : List X) (n b : ℕ) → ((k : ℕ) (x : X) → slice_get xs k ≡ Some x → (c : ℕ) → faults (n + k) c (of x) ≡ []) → each behind faults n b (map of xs) ≡ []
none_from of behind faults [] n b h = refl
none_from of behind faults (x ∷ xs) n b h =
    let here : n + 0 ≡ n = omega arith in
    none_two (faults n b (of x)) (each behind faults (n + 1) (behind b (of x)) (map of xs)) (subst (λ m. faults m b (of x) ≡ []) here (h 0 x refl b))
    (none_from of behind faults xs (n + 1) (behind b (of x)) (λ k y is c. let e : (n + 1) + k ≡ n + suc k = omega arith in rw e (h (suc k) y is c)))

-- no element has a fault
pub none_of : {X Y : Type 0} (of : X → Y) (behind : ℕ → Y → ℕ) (faults : ℕ → ℕ → Y → ImageFaults) (xs : List X) (b : ℕ) → ((k : ℕ) (x : X) → slice_get xs k ≡ Some x → (c : ℕ) → faults k c (of x) ≡ []) → each behind faults 0 b (map of xs) ≡ []
none_of of behind faults xs b h = none_from of behind faults xs 0 b (λ k x is c. let e : 0 + k ≡ k = omega arith in rw e (h k x is c))

same_list : {X : Type 0} (xs : List X) → map (λ x. x) xs ≡ xs
same_list [] = refl
same_list (x ∷ xs) = ap (λ ys. x ∷ ys) (same_list xs)

pub none_in : {X : Type 0} (behind : ℕ → X → ℕ) (faults : ℕ → ℕ → X → ImageFaults) (xs : List X) (b : ℕ) → ((k : ℕ) (x : X) → slice_get xs k ≡ Some x → (c : ℕ) → faults k c x ≡ []) → each behind faults 0 b xs ≡ []
none_in behind faults xs b h = sym (ap (each behind faults 0 b) (same_list xs)) ∙ none_of (λ x. x) behind faults xs b h

equal : (n : ℕ) → nat_eq n n ≡ true
equal n = ⊎_elim (λ h. h.0) (λ h. absurd (h.1 refl)) (eqb_tells n n)

at_least_none : (n : ℕ) → nat_le 0 n ≡ true
at_least_none n = ⊎_elim (λ h. h.0) (λ h. absurd (omega (arith, h.1))) (leb_tells 0 n)

no_less : (n : ℕ) → nat_le n n ≡ true
no_less n = ⊎_elim (λ h. h.0) (λ h. absurd (omega (arith, h.1))) (leb_tells n n)

equal_integer : (z : ℤ) → are_equal z z ≡ true
equal_integer (pos n) = join (int_le (pos n) (pos n)) _ (no_less n) (no_less n)
equal_integer (negsuc n) = join (int_le (negsuc n) (negsuc n)) _ (no_less n) (no_less n)

-- Counts

pub record Counted (i : Sections) : Type 0 where
  pub first : count_faults i ≡ []
  pub second : text_count_faults i ≡ []
  pub words : few_words i ≡ true
  pub subprograms : length i.subprograms ≤ 193
  pub objects : length i.objects ≤ 64

up_to : (byte count most : ℕ) → nat_le count most ≡ true → count_rule byte 0 count most ≡ []
up_to byte count most e = unbroken TABLES_DISAGREE byte (is_within 0 count most) (join (nat_le 0 count) _ (at_least_none count) e)

pub counted : (i : Sections) → Facts i → Counted i
counted i f =
    let a = and_parts (is_within 1 (length i.instructions) INSTRUCTIONS) _ f.counts in
    let b = and_parts (is_within 1 (length i.subprograms) SUBPROGRAMS) _ a.1 in
    let c = and_parts (is_within 1 (length i.tasks) TASKS) _ b.1 in
    let d = and_parts (is_within 4 (length i.exceptions) EXCEPTIONS) _ c.1 in
    let e = and_parts (nat_le (length i.objects) OBJECTS) _ d.1 in
    let g = and_parts (nat_le (length i.rows) ROWS) _ e.1 in
    let h = and_parts (nat_le (length i.labels) LABELS) _ g.1 in
    record {
      first = none_four (count_rule 6 1 (length i.instructions) INSTRUCTIONS) (count_rule 8 1 (length i.subprograms) SUBPROGRAMS) (count_rule 10 0 (length i.objects) OBJECTS) (count_rule 12 1 (length i.tasks) TASKS)
          (unbroken TABLES_DISAGREE 6 (is_within 1 (length i.instructions) INSTRUCTIONS) a.0)
          (unbroken TABLES_DISAGREE 8 (is_within 1 (length i.subprograms) SUBPROGRAMS) b.0)
          (up_to 10 (length i.objects) OBJECTS e.0)
          (unbroken TABLES_DISAGREE 12 (is_within 1 (length i.tasks) TASKS) c.0);
      second = none_three (count_rule 14 4 (length i.exceptions) EXCEPTIONS) (count_rule 16 0 (length i.rows) ROWS) (count_rule 18 0 (length i.labels) LABELS)
          (unbroken TABLES_DISAGREE 14 (is_within 4 (length i.exceptions) EXCEPTIONS) d.0)
          (up_to 16 (length i.rows) ROWS g.0)
          (up_to 18 (length i.labels) LABELS h.0);
      words = h.1;
      subprograms = leb-true (length i.subprograms) SUBPROGRAMS (and_parts (nat_le 1 (length i.subprograms)) _ b.0).1;
      objects = leb-true (length i.objects) OBJECTS e.0;
    }

-- Texts

front_at : (front names : List (List ℕ)) → begins_with front names ≡ true → (k : ℕ) (t : List ℕ) → slice_get names k ≡ Some t → none_or (slice_get front k) (λ p. bytes_eq p t) ≡ true
front_at [] names e k t is = refl
front_at (p ∷ front) [] e k t is = absurd (none-some t is)
front_at (p ∷ front) (n ∷ names) e zero t is = subst (λ v. bytes_eq p v ≡ true) (same_Some n t is) (and_parts (bytes_eq p n) _ e).0
front_at (p ∷ front) (n ∷ names) e (suc k) t is = front_at front names (and_parts (bytes_eq p n) _ e).1 k t is

pub exceptions_none : (i : Sections) → Facts i → (k : ℕ) (t : List ℕ) → slice_get i.exceptions k ≡ Some t → (c : ℕ) → exception_faults k c t ≡ []
exceptions_none i f k t is c =
    unbroken TABLES_DISAGREE (text_byte c t) (is_exception k t) (join (is_name t) _ (list_all-at is_name i.exceptions k t f.names is) (front_at predefined i.exceptions f.begins k t is))

pub labels_none : (i : Sections) → Facts i → (k : ℕ) (t : List ℕ) → slice_get i.labels k ≡ Some t → (c : ℕ) → label_faults k c t ≡ []
labels_none i f k t is c = unbroken TABLES_DISAGREE (text_byte c t) (is_label t) (list_all-at is_label i.labels k t f.labels is)

-- Objects

body_none : (byte k : ℕ) (kind : Kind) → is_entry_body_of k kind ≡ true → entry_body_faults byte k kind ≡ []
body_none byte k (EntryBody o) e = unbroken TABLES_DISAGREE (after byte 1) (nat_eq o k) e
body_none byte k Plain e = absurd (true≢false (sym e))
body_none byte k (ProtectedProcedure o) e = absurd (true≢false (sym e))
body_none byte k (ProtectedFunction o) e = absurd (true≢false (sym e))
body_none byte k TaskBody e = absurd (true≢false (sym e))

called_none : (byte k : ℕ) (o : Option Subprogram) → none_or o (λ s. is_entry_body_of k s.kind) ≡ true → entry_called_faults byte k o ≡ []
called_none byte k None e = refl
called_none byte k (Some s) e = body_none byte k s.kind e

entry_none : (i : Sections) (start k : ℕ) (o : Option ℕ) → none_or o (λ n. none_or (slice_get i.subprograms n) (λ s. is_entry_body_of k s.kind)) ≡ true → entry_faults i start k o ≡ []
entry_none i start k None e = refl
entry_none i start k (Some n) e = called_none (after start (13 * n)) k (slice_get i.subprograms n) e

there_is : (e : Option ℕ) (b : Bool) → (some_and e (λ n. true) || b) ≡ true → (is_some e || b) ≡ true
there_is None b h = h
there_is (Some n) b h = refl

pub small_entry : (i : Sections) → Facts i → (k : ℕ) (o : ObjectRow) → slice_get i.objects k ≡ Some o → (n : ℕ) → o.entry ≡ Some n → n < 65535
small_entry i f k o is n e =
    let lt : n < length i.subprograms = ltb-true n (length i.subprograms) (none_or-at o.entry (λ n. nat_lt n (length i.subprograms)) n e (list_all-at (has_entry i) i.objects k o f.have_entries is)) in
    let few = (counted i f).subprograms in
    omega (arith, lt, few)

pub objects_none : (i : Sections) → Facts i → (start k : ℕ) (o : ObjectRow) → slice_get i.objects k ≡ Some o → (c : ℕ) → object_faults i start k c (raw_object o) ≡ []
objects_none i f start k o is c =
    let raw = raw_object o in
    let a = and_parts (nat_le o.ceiling CEILING) _ (placed-at (is_object i) i.objects k o f.objects is) in
    let b = and_parts (none_or o.entry (λ n. none_or (slice_get i.subprograms n) (λ s. is_entry_body_of k s.kind))) _ a.1 in
    let d = and_parts (is_barrier o o.barrier) _ b.1 in
    let ceiling = rule TABLES_DISAGREE c (not (nat_le o.ceiling CEILING)) in
    ap (λ v. (ceiling ++ rule NAMED_THING_MISSING (after c 1) (not (has_entry i v))) ++ entry_faults i start k v.entry ++ barrier_faults c raw v) (object_back o (small_entry i f k o is))
    ∙ none_three (ceiling ++ rule NAMED_THING_MISSING (after c 1) (not (has_entry i o))) (entry_faults i start k o.entry) (barrier_faults c raw o)
    (none_two ceiling (rule NAMED_THING_MISSING (after c 1) (not (has_entry i o))) (unbroken TABLES_DISAGREE c (nat_le o.ceiling CEILING) a.0) (unbroken NAMED_THING_MISSING (after c 1) (has_entry i o) (list_all-at (has_entry i) i.objects k o f.have_entries is)))
    (entry_none i start k o.entry b.0)
    (none_three (rule TABLES_DISAGREE (after c 3) (not (has_barrier o raw.barrier))) (rule TABLES_DISAGREE (after c 4) (not (nat_eq (word_of_barrier o.barrier) raw.barrier_word))) (rule TABLES_DISAGREE (after c 6) (not (is_barrier o o.barrier)))
    (unbroken TABLES_DISAGREE (after c 3) (has_barrier o raw.barrier) (join (nat_eq (barrier_number o.barrier) (barrier_number o.barrier)) _ (equal (barrier_number o.barrier)) (there_is o.entry (is_closed_barrier o.barrier) d.1)))
    (unbroken TABLES_DISAGREE (after c 4) (nat_eq (word_of_barrier o.barrier) raw.barrier_word) (equal (word_of_barrier o.barrier)))
    (unbroken TABLES_DISAGREE (after c 6) (is_barrier o o.barrier) d.0))

-- Subprograms

names_own : (o : Option ℕ) (m : ℕ) → none_or o (λ n. nat_lt n m) ≡ true → m ≤ 64 → not (is_some o && nat_eq (unwrap_or o 65535) 65535) ≡ true
names_own None m e le = refl
names_own (Some n) m e le =
    let lt : n < m = ltb-true n m e in
    ⊎_elim (λ h. absurd (omega (arith, lt, le, h.1))) (λ h. ap not h.0) (eqb_tells n 65535)

or_right : (a b : Bool) → b ≡ true → (a || b) ≡ true
or_right true b e = refl
or_right false b e = e

left_under : (a b c : Bool) → (not a || (b && c)) ≡ true → (not a || b) ≡ true
left_under true b c e = (and_parts b c e).0
left_under false b c e = refl

right_under : (a b c : Bool) → (not a || (b && c)) ≡ true → (not a || c) ≡ true
right_under true b c e = (and_parts b c e).1
right_under false b c e = refl

last_at : (i : Sections) (k : ℕ) (s : Subprogram) → slice_get i.subprograms k ≡ Some s → nat_eq (last_end i.subprograms) (length i.instructions) ≡ true → (b : Bool) → nat_eq (k + 1) (length i.subprograms) ≡ b → (not b || nat_eq s.end_ (length i.instructions)) ≡ true
last_at i k s is e true same =
    let count = eqb-true (k + 1) (length i.subprograms) same in
    let last : length i.subprograms - 1 ≡ k = omega (arith, count) in
    subst (λ o. nat_eq (end_of o) (length i.instructions) ≡ true) is (subst (λ m. nat_eq (end_of (slice_get i.subprograms m)) (length i.instructions) ≡ true) last e)
last_at i k s is e false same = refl

kind_none : (i : Sections) → Facts i → (k : ℕ) (s : Subprogram) → slice_get i.subprograms k ≡ Some s → is_entry_of_object i k s.kind ≡ true → (c : ℕ) → kind_faults i k c (raw_subprogram s) s ≡ []
kind_none i f k s is own c =
    let object = object_of_kind s.kind in
    let there = list_all-at (has_object i) i.subprograms k s f.have_objects is in
    let few = (counted i f).objects in
    none_three (rule TABLES_DISAGREE c (not (nat_eq (kind_number s.kind) (kind_number s.kind)))) (rule NAMED_THING_MISSING (after c 1) (not (nat_eq object 65535 || has_object i s))) (rule TABLES_DISAGREE (after c 1) (not (names_object s.kind object && is_entry_of_object i k s.kind)))
    (unbroken TABLES_DISAGREE c (nat_eq (kind_number s.kind) (kind_number s.kind)) (equal (kind_number s.kind)))
    (unbroken NAMED_THING_MISSING (after c 1) (nat_eq object 65535 || has_object i s) (or_right (nat_eq object 65535) (has_object i s) there))
    (unbroken TABLES_DISAGREE (after c 1) (names_object s.kind object && is_entry_of_object i k s.kind)
    (join (names_object s.kind object) _ (join (nat_eq object object) _ (equal object) (names_own (object_of s.kind) (length i.objects) there few)) own))

body_place_none : (i : Sections) → Facts i → (code k : ℕ) (s : Subprogram) → slice_get i.subprograms k ≡ Some s → (c : ℕ) → body_faults i (has_ends i) code k c s ≡ []
body_place_none i f code k s is c =
    let e = and_parts (all_begun rises 0 i.subprograms) _ f.ends in
    let rising : nat_lt (first_place i k) s.end_ ≡ true = subst (λ p. nat_lt p s.end_ ≡ true) (sym (first_begin i k)) (all_begun-at rises i.subprograms 0 k s e.0 is) in
    let begins : has_depth i (first_place i k) 0 ≡ true = subst (λ p. has_depth i p 0 ≡ true) (sym (first_begin i k)) (all_begun-at (λ first s. has_depth i first 0) i.subprograms 0 k s f.empty is) in
    none_three (rule TABLES_DISAGREE (after c 3) (not (is_end i k s))) (rule JUMP_OUTSIDE (after code (13 * (s.end_ - 1))) (has_ends i && not (is_closed i s))) (rule DEPTHS_DISAGREE (after code (13 * first_place i k + 1)) (has_ends i && not (has_depth i (first_place i k) 0)))
    (unbroken TABLES_DISAGREE (after c 3) (is_end i k s) (join (nat_lt (first_place i k) s.end_) _ rising (last_at i k s is e.1 (nat_eq (k + 1) (length i.subprograms)) refl)))
    (unbroken_where JUMP_OUTSIDE (after code (13 * (s.end_ - 1))) (has_ends i) (is_closed i s) (list_all-at (is_closed i) i.subprograms k s f.closed is))
    (unbroken_where DEPTHS_DISAGREE (after code (13 * first_place i k + 1)) (has_ends i) (has_depth i (first_place i k) 0) begins)

pub subprograms_none : (i : Sections) → Facts i → (code k : ℕ) (s : Subprogram) → slice_get i.subprograms k ≡ Some s → (c : ℕ) → subprogram_faults i (has_ends i) code k c (raw_subprogram s) ≡ []
subprograms_none i f code k s is c =
    let raw = raw_subprogram s in
    let a = and_parts (nat_le s.parameters s.locals) _ (placed-at (is_subprogram i) i.subprograms k s f.subprograms is) in
    let b = and_parts (nat_le (s.locals + s.stack) FRAME_WORDS) _ a.1 in
    let d = and_parts (not (is_task_body s.kind) || (nat_eq s.parameters 0 && nat_eq s.results 0)) _ b.1 in
    let sizes : size_faults c s ≡ [] =
    none_four (rule TABLES_DISAGREE (after c 5) (is_task_body s.kind && not (nat_eq s.parameters 0))) (rule TABLES_DISAGREE (after c 7) (is_task_body s.kind && not (nat_eq s.results 0))) (rule TABLES_DISAGREE (after c 9) (not (nat_le s.parameters s.locals))) (rule TABLES_DISAGREE (after c 11) (not (nat_le (s.locals + s.stack) FRAME_WORDS)))
    (unbroken_if TABLES_DISAGREE (after c 5) (is_task_body s.kind) (nat_eq s.parameters 0) (left_under (is_task_body s.kind) (nat_eq s.parameters 0) (nat_eq s.results 0) d.0))
    (unbroken_if TABLES_DISAGREE (after c 7) (is_task_body s.kind) (nat_eq s.results 0) (right_under (is_task_body s.kind) (nat_eq s.parameters 0) (nat_eq s.results 0) d.0))
    (unbroken TABLES_DISAGREE (after c 9) (nat_le s.parameters s.locals) a.0)
    (unbroken TABLES_DISAGREE (after c 11) (nat_le (s.locals + s.stack) FRAME_WORDS) b.0) in
    ap (decoded_faults i (has_ends i) code k c raw) (subprogram_back s)
    ∙ none_three (kind_faults i k c raw s) (size_faults c s) (body_faults i (has_ends i) code k c s) (kind_none i f k s is d.1 c) sizes (body_place_none i f code k s is c)

-- Tasks

pub tasks_none : (i : Sections) → Facts i → (k : ℕ) (t : Task) → slice_get i.tasks k ≡ Some t → (c : ℕ) → task_faults i k c (raw_task t) ≡ []
tasks_none i f k t is c =
    let behind = after c (length t.name + 2) in
    let a = and_parts (is_name t.name) _ (list_all-at (is_task i) i.tasks k t f.tasks is) in
    let b = and_parts (nat_le t.priority TASK_PRIORITY) _ a.1 in
    let there = nat_lt t.subprogram (length i.subprograms) in
    let body = none_or (slice_get i.subprograms t.subprogram) (λ s. is_task_body s.kind) in
    none_three (rule TABLES_DISAGREE (text_byte c t.name) (not (is_name t.name))) (rule TABLES_DISAGREE (after c (length t.name + 1)) (not (nat_le t.priority TASK_PRIORITY))) (rule NAMED_THING_MISSING behind (not there) ++ rule TABLES_DISAGREE behind (not body))
    (unbroken TABLES_DISAGREE (text_byte c t.name) (is_name t.name) a.0)
    (unbroken TABLES_DISAGREE (after c (length t.name + 1)) (nat_le t.priority TASK_PRIORITY) b.0)
    (none_two (rule NAMED_THING_MISSING behind (not there)) (rule TABLES_DISAGREE behind (not body)) (unbroken NAMED_THING_MISSING behind there (list_all-at (has_body i) i.tasks k t f.have_bodies is)) (unbroken TABLES_DISAGREE behind body b.1))

-- Handler rows

pub rows_none : (i : Sections) → Facts i → (code k : ℕ) (r : Row) → slice_get i.rows k ≡ Some r → (c : ℕ) → row_faults i (has_ends i) code k c r ≡ []
rows_none i f code k r is c =
    let covers = rule JUMP_OUTSIDE (after c 2) (not (covers_places r)) in
    let exists = rule TABLES_DISAGREE (after c 4) (not (nat_le r.exception (length i.exceptions))) in
    let within = rule JUMP_OUTSIDE (after c 6) (has_ends i && not (is_row_within i r)) in
    let deep = rule DEPTHS_DISAGREE (after code (13 * r.target + 1)) (has_ends i && not (has_depth i r.target 1)) in
    none_two (covers ++ exists) (within ++ deep)
    (none_two covers exists (unbroken JUMP_OUTSIDE (after c 2) (covers_places r) (list_all-at covers_places i.rows k r f.covers is)) (unbroken TABLES_DISAGREE (after c 4) (nat_le r.exception (length i.exceptions)) (list_all-at (λ r. nat_le r.exception (length i.exceptions)) i.rows k r f.row_exceptions is)))
    (none_two within deep (unbroken_where JUMP_OUTSIDE (after c 6) (has_ends i) (is_row_within i r) (list_all-at (is_row_within i) i.rows k r f.rows is)) (unbroken_where DEPTHS_DISAGREE (after code (13 * r.target + 1)) (has_ends i) (has_depth i r.target 1) (list_all-at (λ r. has_depth i r.target 1) i.rows k r f.targets is)))

nested_before : (rows : List Row) → all_nested rows ≡ true → (k : ℕ) (r : Row) → slice_get rows k ≡ Some r → list_all (are_nested r) (take k rows) ≡ true
nested_before [] all k r is = absurd (none-some r is)
nested_before (q ∷ rows) all zero r is = refl
nested_before (q ∷ rows) all (suc k) r is =
    let a = and_parts (list_all (are_nested q) rows) _ all in
    join (are_nested r q) _ (nested_either_way r q ∙ list_all-at (are_nested q) rows k r a.0 is) (nested_before rows a.1 k r is)

pub crossings_none : (i : Sections) → Facts i → (k : ℕ) (r : Row) → slice_get i.rows k ≡ Some r → (c : ℕ) → crossing_faults i.rows k c r ≡ []
crossings_none i f k r is c = unbroken TABLES_DISAGREE (after c 2) (list_all (are_nested r) (take k i.rows)) (nested_before i.rows f.nested k r is)

-- Attachments

pub attached_count_none : (attachments : List Attachment) → length attachments ≤ CHANNELS
    → rule TABLES_DISAGREE 22 (nat_eq (version_of attachments) 2 && not (is_within 1 (length attachments) CHANNELS)) ≡ []
attached_count_none [] few = refl
attached_count_none (a ∷ more) few =
    let n = length (a ∷ more) in
    unbroken TABLES_DISAGREE 22 (is_within 1 n CHANNELS) (join (nat_le 1 n) _ (le-leb 1 n (omega arith)) (le-leb n CHANNELS few))

attachment_none : (i : Sections) (last byte : ℕ) (a : Attachment) → is_attached i last a ≡ true → attachment_faults i last byte a ≡ []
attachment_none i last byte a e =
    let at = after byte 1 in
    let n = a.subprogram in
    let p = and_parts (nat_lt last a.channel) _ e in
    let q = and_parts (nat_le a.channel CHANNELS) _ p.1 in
    let s = some_and-true (called i n) (may_handle i) q.1 in
    let rises = nat_lt last a.channel && nat_le a.channel CHANNELS in
    let inside = nat_lt n (length i.subprograms) in
    let handles = none_or (called i n) (may_handle i) in
    none_two (rule TABLES_DISAGREE byte (not rises)) (handler_faults i at n) (unbroken TABLES_DISAGREE byte rises (join (nat_lt last a.channel) _ p.0 q.0))
    (none_two (rule NAMED_THING_MISSING at (not inside)) (rule TABLES_DISAGREE at (not handles))
    (unbroken NAMED_THING_MISSING at inside (lt-ltb n (length i.subprograms) (slice_get_within i.subprograms n s.0 s.1)))
    (unbroken TABLES_DISAGREE at handles (subst (λ o. none_or o (may_handle i) ≡ true) (sym s.1) s.2)))

pub attached_none : (i : Sections) (attachments : List Attachment) (last byte : ℕ) → are_attached i last attachments ≡ true
    → attached_faults i last byte attachments ≡ []
attached_none i [] last byte e = refl
attached_none i (a ∷ rest) last byte e =
    let p = and_parts (is_attached i last a) _ e in
    none_two (attachment_faults i last byte a) (attached_faults i a.channel (after byte 3) rest) (attachment_none i last byte a p.0)
    (attached_none i rest a.channel (after byte 3) p.1)

-- Instructions

pub operands_none : (i : Sections) → Facts i → (k : ℕ) (x : Instr) → slice_get i.instructions k ≡ Some x → (c : ℕ) → instruction_faults k c (raw_instruction x) ≡ []
operands_none i f k x is c =
    let o = x.operation in
    let has = list_all-at (λ x. has_operands x.operation) i.instructions k x f.operands is in
    ap (operand_faults c (raw_instruction x)) (operation_back o has)
    ∙ none_two (rule OPERAND_OUT_OF_RANGE (after c 3) (not (nat_eq (address_of o) (address_of o)))) (rule OPERAND_OUT_OF_RANGE (after c 5) (not (are_equal (constant_of o) (constant_of o) && has_operands o)))
    (unbroken OPERAND_OUT_OF_RANGE (after c 3) (nat_eq (address_of o) (address_of o)) (equal (address_of o)))
    (unbroken OPERAND_OUT_OF_RANGE (after c 5) (are_equal (constant_of o) (constant_of o) && has_operands o) (join (are_equal (constant_of o) (constant_of o)) _ (equal_integer (constant_of o)) has))

jump_none : (i : Sections) (code place byte depth : ℕ) (o : Option ℕ) → none_or o (λ a. has_depth i a depth) ≡ true → jump_faults i code place byte depth o ≡ []
jump_none i code place byte depth None e = refl
jump_none i code place byte depth (Some a) e = unbroken DEPTHS_DISAGREE (if nat_lt place a then after code (13 * a + 1) else after byte 1) (has_depth i a depth) e

effect_none : (i : Sections) (code place byte : ℕ) (x : Instr) (s : Subprogram) → leaves_depth i place x s ≡ true → effect_faults i code place byte x s ≡ []
effect_none i code place byte x s e =
    let left = depth_after i s x in
    let a = and_parts (nat_le (taken_by i s.results x.operation) x.depth) _ e in
    let b = and_parts (nat_le left s.stack) _ a.1 in
    let d = and_parts (not (goes_on x.operation) || has_depth i (place + 1) left) _ b.1 in
    let fits = rule DEPTHS_DISAGREE (after byte 1) (not (nat_le left s.stack)) in
    let next = rule DEPTHS_DISAGREE (after byte 14) (goes_on x.operation && not (has_depth i (place + 1) left)) in
    let jump = jump_faults i code place byte left (jump_target x.operation) in
    ap (λ v. if v then (fits ++ next ++ jump) else rule DEPTHS_DISAGREE (after byte 1) true) a.0
    ∙ none_three fits next jump (unbroken DEPTHS_DISAGREE (after byte 1) (nat_le left s.stack) b.0) (unbroken_if DEPTHS_DISAGREE (after byte 14) (goes_on x.operation) (has_depth i (place + 1) left) d.0) (jump_none i code place byte left (jump_target x.operation) d.1)

where_known : (b : Bool) (fs : ImageFaults) (t : Bool) → (not b || t) ≡ true → (t ≡ true → fs ≡ []) → (if b then fs else []) ≡ []
where_known true fs t e none = none e
where_known false fs t e none = refl

operation_none : (i : Sections) (code place byte : ℕ) (x : Instr) (s : Subprogram) → jumps_within i place x ≡ true → names_things i s x.operation ≡ true → (not (is_return x.operation) || nat_eq x.depth s.results) ≡ true → (not (has_effect i x.operation) || leaves_depth i place x s) ≡ true → operation_faults i code place byte x s ≡ []
operation_none i code place byte x s jumps names returns leaves =
    let named = if may_use_object s x.operation then after byte 3 else byte in
    none_four (rule JUMP_OUTSIDE (after byte 3) (not (jumps_within i place x))) (rule NAMED_THING_MISSING named (not (names_things i s x.operation))) (rule DEPTHS_DISAGREE (after byte 1) (is_return x.operation && not (nat_eq x.depth s.results))) (if has_effect i x.operation then effect_faults i code place byte x s else [])
    (unbroken JUMP_OUTSIDE (after byte 3) (jumps_within i place x) jumps)
    (unbroken NAMED_THING_MISSING named (names_things i s x.operation) names)
    (unbroken_if DEPTHS_DISAGREE (after byte 1) (is_return x.operation) (nat_eq x.depth s.results) returns)
    (where_known (has_effect i x.operation) (effect_faults i code place byte x s) (leaves_depth i place x s) leaves (effect_none i code place byte x s))

pub places_none : (i : Sections) → Facts i → (code k : ℕ) (x : Instr) → slice_get i.instructions k ≡ Some x → (c : ℕ) → place_faults i code k c (raw_instruction x) ≡ []
places_none i f code k x is c =
    let raw = raw_instruction x in
    let has = list_all-at (λ x. has_operands x.operation) i.instructions k x f.operands is in
    let n = some_and-true (holder i.subprograms k) (λ s. names_things i s x.operation) (placed-at (λ place x. in_holder i place (λ s. names_things i s x.operation)) i.instructions k x f.named is) in
    let s = n.0 in
    let keeps : keeps_depth i k x s ≡ true = subst (λ o. some_and o (keeps_depth i k x) ≡ true) n.1 (placed-at (λ place x. in_holder i place (keeps_depth i place x)) i.instructions k x f.depths is) in
    let a = and_parts (nat_le x.depth s.stack) _ keeps in
    let b = and_parts (not (is_return x.operation) || nat_eq x.depth s.results) _ a.1 in
    let deep = rule DEPTHS_DISAGREE (after c 1) (not (nat_le x.depth s.stack)) in
    let operation = operation_none i code k c x s (placed-at (jumps_within i) i.instructions k x f.jumps is) n.2 b.0 b.1 in
    ap (code_faults i code k c raw) n.1
    ∙ (ap (λ o. deep ++ (if is_some o then operation_faults i code k c (instruction_of raw) s else [])) (operation_back x.operation has)
    ∙ (ap (λ v. deep ++ operation_faults i code k c v s) (instruction_back x has)
    ∙ none_two deep (operation_faults i code k c x s) (unbroken DEPTHS_DISAGREE (after c 1) (nat_le x.depth s.stack) a.0) operation))
