-- Bytes that break no rule are the bytes of the sections that they give.
use Rattle.std.proofs.Common.{◌≡◌, ℕ, zero, suc, ◌+◌, ℤ, pos, negsuc, List, [], ◌∷◌, ◌++◌, length, map, Bool, true, false, cond, Some, None, refl, sym, ap, ◌∙◌, arith}
use Rattle.std.specs.Prelude.{flat_map, int_le, nat_eq, nat_le, not, ◌&&◌, ◌||◌, option_map, slice_get, unwrap_or}
use Rattle.std.proofs.lemmas.Bool.{true≢false, leb-true}
use Rattle.std.proofs.lemmas.List.Concat.{flat_map-cons}
use Rattle.std.proofs.lemmas.Option.{none-some, same_Some, slice_get-map}
use Rattle.base.specs.Names.{is_label, is_name}
use Rattle.base.specs.declared.faults.TheConstants.{NAMED_THING_MISSING, TABLES_DISAGREE}
use Rattle.image_format.specs.Bytes.{address_of, barrier_bytes, constant_of, half, instruction_bytes, kind_number, object_bytes, opcode_of, subprogram_bytes, task_bytes, text, word}
use Rattle.image_loading.specs.Decoding.{entry_from, instruction_of, object_from, operation_from, operation_of, operations, sections_of, subprogram_from, task_from, text_from}
use Rattle.image_loading.specs.FaultOrder.{after, rule}
use Rattle.image_loading.specs.Loading.{barrier_faults, barrier_number, behind_object, behind_row, behind_task, behind_text, body_faults, ceiling_faults, code_start, entry_faults, has_barrier, kind_faults, label_faults, labels_start, names_object, object_faults, objects_start, size_faults, subprogram_faults, subprograms_start, task_body_faults, task_faults, tasks_start, text_byte, word_of_barrier}
use Rattle.image_loading.specs.Reading.{Raw}
use Rattle.image.specs.Rules.{has_ends, has_object, is_barrier, is_entry_of_object}
use Rattle.image.specs.Scalars.{are_equal}
use Rattle.image.specs.Sections.{object_of}
use Rattle.image.specs.declared.instruction.Operation.{Operation}
use Rattle.image.specs.declared.instruction.Operation.TheVariants.{Raise}
use Rattle.image.specs.declared.objects.Barrier.{Barrier}
use Rattle.image.specs.declared.objects.Barrier.TheVariants.{Closed, Open, Word}
use Rattle.image_loading.proofs.Accepted.{kept}
use Rattle.image_loading.proofs.AcceptedSections.{Clear, apart, exception_at, label_short, name_short, none_at, same_text}
use Rattle.image_loading.proofs.AcceptedCode.{operands_kept}
use Rattle.image_loading.proofs.SpelledRows.{raw_instruction_bytes, raw_object_bytes, raw_subprogram_bytes, raw_task_bytes}
use Rattle.std.proofs.lemmas.Bool.{and_parts, eqb-true}

-- element by element
flat_map_same : {X Y : Type 0} (f : X → List ℕ) (g : Y → List ℕ) (d : X → Y) (xs : List X) → ((k : ℕ) (x : X) → slice_get xs k ≡ Some x → f x ≡ g (d x)) → flat_map f xs ≡ flat_map g (map d xs)
flat_map_same f g d [] h = refl
flat_map_same f g d (x ∷ xs) h =
    flat_map-cons f x xs ∙ (ap (λ t. t ++ flat_map f xs) (h 0 x refl) ∙ (ap (λ t. g (d x) ++ t) (flat_map_same f g d xs (λ k y is. h (suc k) y is)) ∙ sym (flat_map-cons g (d x) (map d xs))))

-- Texts

pub exceptions_same : (r : Raw) → Clear r → flat_map text r.exceptions ≡ flat_map text (map text_from r.exceptions)
exceptions_same r c = flat_map_same text text text_from r.exceptions (λ k t is. ap text (sym (same_text t (name_short t (and_parts (is_name t) _ (exception_at r c k t is)).0))))

pub labels_same : (r : Raw) → Clear r → flat_map text r.labels ≡ flat_map text (map text_from r.labels)
labels_same r c =
    flat_map_same text text text_from r.labels
    (λ k t is.
    let w = none_at behind_text label_faults r.labels (labels_start r) k t c.labels is in
    ap text (sym (same_text t (label_short t (kept TABLES_DISAGREE (text_byte w.0 t) (is_label t) w.1)))))

-- Objects

entry_same : (n : ℕ) → n ≡ unwrap_or (entry_from n) 65535
entry_same n = by_test (nat_eq n 65535) refl
  where
    by_test : (b : Bool) → nat_eq n 65535 ≡ b → n ≡ unwrap_or (cond b None (Some n)) 65535
    by_test true e = eqb-true n 65535 e
    by_test false e = refl

barrier_same : (b : Barrier) → barrier_bytes b ≡ barrier_number b ∷ half (word_of_barrier b)
barrier_same Closed = refl
barrier_same Open = refl
barrier_same (Word n) = refl

pub objects_same : (r : Raw) → Clear r → flat_map raw_object_bytes r.objects ≡ flat_map object_bytes (map object_from r.objects)
objects_same r c =
    flat_map_same raw_object_bytes object_bytes object_from r.objects
    (λ k raw is.
    let i = sections_of r in
    let o = object_from raw in
    let w = none_at behind_object (object_faults i (subprograms_start r)) r.objects (objects_start r) k raw c.objects is in
    let byte = w.0 in
    let p = apart (ceiling_faults i byte raw) (entry_faults i (subprograms_start r) k o.entry) (barrier_faults byte raw o) w.1 in
    let b = apart (rule TABLES_DISAGREE (after byte 3) (not (has_barrier o raw.barrier))) (rule TABLES_DISAGREE (after byte 4) (not (nat_eq (word_of_barrier o.barrier) raw.barrier_word))) (rule TABLES_DISAGREE (after byte 6) (not (is_barrier o o.barrier))) p.2 in
    let number = eqb-true (barrier_number o.barrier) raw.barrier (and_parts (nat_eq (barrier_number o.barrier) raw.barrier) _ (kept TABLES_DISAGREE (after byte 3) (has_barrier o raw.barrier) b.0)).0 in
    let opening = eqb-true (word_of_barrier o.barrier) raw.barrier_word (kept TABLES_DISAGREE (after byte 4) (nat_eq (word_of_barrier o.barrier) raw.barrier_word) b.1) in
    let bar : raw.barrier ∷ half raw.barrier_word ≡ barrier_bytes o.barrier = ap (λ n. n ∷ half raw.barrier_word) (sym number) ∙ (ap (λ n. barrier_number o.barrier ∷ half n) (sym opening) ∙ sym (barrier_same o.barrier)) in
    ap (λ n. raw.ceiling ∷ half n ++ (raw.barrier ∷ half raw.barrier_word) ++ half (length raw.words) ++ flat_map word raw.words) (entry_same raw.entry)
    ∙ ap (λ t. raw.ceiling ∷ half (unwrap_or o.entry 65535) ++ t ++ half (length raw.words) ++ flat_map word raw.words) bar)

-- Subprograms

pub subprograms_same : (r : Raw) → Clear r → flat_map raw_subprogram_bytes r.subprograms ≡ flat_map subprogram_bytes (map subprogram_from r.subprograms)
subprograms_same r c =
    flat_map_same raw_subprogram_bytes subprogram_bytes subprogram_from r.subprograms
    (λ k raw is.
    let i = sections_of r in
    let s = subprogram_from raw in
    let w = none_at (behind_row 13) (subprogram_faults i (has_ends i) (code_start r)) r.subprograms (subprograms_start r) k raw c.subprograms is in
    let byte = w.0 in
    let p = apart (kind_faults i k byte raw s) (size_faults byte s) (body_faults i (has_ends i) (code_start r) k byte s) w.1 in
    let q = apart (rule TABLES_DISAGREE byte (not (nat_eq (kind_number s.kind) raw.kind))) (rule NAMED_THING_MISSING (after byte 1) (not (nat_eq raw.object 65535 || has_object i s))) (rule TABLES_DISAGREE (after byte 1) (not (names_object s.kind raw.object && is_entry_of_object i k s.kind))) p.0 in
    let kind = eqb-true (kind_number s.kind) raw.kind (kept TABLES_DISAGREE byte (nat_eq (kind_number s.kind) raw.kind) q.0) in
    let named = (and_parts (names_object s.kind raw.object) _ (kept TABLES_DISAGREE (after byte 1) (names_object s.kind raw.object && is_entry_of_object i k s.kind) q.2)).0 in
    let object = eqb-true (unwrap_or (object_of s.kind) 65535) raw.object (and_parts (nat_eq (unwrap_or (object_of s.kind) 65535) raw.object) _ named).0 in
    ap (λ n. n ∷ flat_map half (raw.object ∷ raw.end_ ∷ raw.parameters ∷ raw.results ∷ raw.locals ∷ raw.stack ∷ [])) (sym kind)
    ∙ ap (λ n. kind_number s.kind ∷ flat_map half (n ∷ raw.end_ ∷ raw.parameters ∷ raw.results ∷ raw.locals ∷ raw.stack ∷ [])) (sym object))

-- Tasks

pub tasks_same : (r : Raw) → Clear r → flat_map raw_task_bytes r.tasks ≡ flat_map task_bytes (map task_from r.tasks)
tasks_same r c =
    flat_map_same raw_task_bytes task_bytes task_from r.tasks
    (λ k t is.
    let i = sections_of r in
    let w = none_at behind_task (task_faults i) r.tasks (tasks_start r) k t c.tasks is in
    let byte = w.0 in
    let p = apart (rule TABLES_DISAGREE (text_byte byte t.name) (not (is_name t.name))) (rule TABLES_DISAGREE (after byte (length t.name + 1)) (not (nat_le t.priority Rattle.base.specs.declared.limits.TheConstants.TASK_PRIORITY))) (task_body_faults i (after byte (length t.name + 2)) t.subprogram) w.1 in
    ap (λ n. text n ++ t.priority ∷ half t.subprogram) (sym (same_text t.name (name_short t.name (kept TABLES_DISAGREE (text_byte byte t.name) (is_name t.name) p.0)))))

-- Instructions

pub same_integer : (x y : ℤ) → are_equal x y ≡ true → x ≡ y
same_integer (pos a) (pos b) e = let p = and_parts (int_le (pos a) (pos b)) (int_le (pos b) (pos a)) e in let l = leb-true a b p.0 in let m = leb-true b a p.1 in let s : a ≡ b = omega (arith, l, m) in ap pos s
same_integer (pos a) (negsuc b) e = absurd (true≢false (sym (and_parts (int_le (pos a) (negsuc b)) (int_le (negsuc b) (pos a)) e).0))
same_integer (negsuc a) (pos b) e = absurd (true≢false (sym (and_parts (int_le (negsuc a) (pos b)) (int_le (pos b) (negsuc a)) e).1))
same_integer (negsuc a) (negsuc b) e = let p = and_parts (int_le (negsuc a) (negsuc b)) (int_le (negsuc b) (negsuc a)) e in let l = leb-true b a p.0 in let m = leb-true a b p.1 in let s : a ≡ b = omega (arith, l, m) in ap negsuc s

-- numbers that count up
abbrev ups : ℕ → ℕ → List ℕ
ups first zero = []
ups first (suc n) = first ∷ ups (suc first) n

ups_at : (first n k m : ℕ) → slice_get (ups first n) k ≡ Some m → m ≡ first + k
ups_at first zero k m is = absurd (none-some m is)
ups_at first (suc n) zero m is = let e = same_Some first m is in omega (arith, e)
ups_at first (suc n) (suc k) m is = let e = ups_at (suc first) n k m is in omega (arith, e)

opcodes_up : (a : ℕ) (k : ℤ) → map opcode_of (operations a k) ≡ ups 1 46
unfolding opcode_of
opcodes_up a k = refl

pub opcode_read : (n a : ℕ) (k : ℤ) (o : Operation) → operation_from n a k ≡ Some o → opcode_of o ≡ n
unfolding operation_from
opcode_read zero a k o is = absurd (none-some o is)
opcode_read (suc n) a k o is =
    let e : slice_get (ups 1 46) n ≡ Some (opcode_of o) = sym (ap (λ l. slice_get l n) (opcodes_up a k)) ∙ (slice_get-map opcode_of (operations a k) n ∙ ap (option_map opcode_of) is) in
    let u = ups_at 1 46 n (opcode_of o) e in
    omega (arith, u)

pub instructions_same : (r : Raw) → Clear r → flat_map raw_instruction_bytes r.instructions ≡ flat_map instruction_bytes (map instruction_of r.instructions)
instructions_same r c =
    flat_map_same raw_instruction_bytes instruction_bytes instruction_of r.instructions
    (λ k x is.
    let o = operands_kept r c k x is in
    let op = o.operation in
    let decoded : op ≡ unwrap_or (operation_of x) Raise = ap (λ v. unwrap_or v Raise) (sym o.is) in
    let opcode = opcode_read x.opcode x.address x.constant op o.is in
    let address = eqb-true (address_of op) x.address o.address in
    let constant = same_integer (constant_of op) x.constant o.constant in
    ap (λ n. n ∷ half x.depth ++ half x.address ++ word x.constant) (sym opcode)
    ∙ (ap (λ n. opcode_of op ∷ half x.depth ++ half n ++ word x.constant) (sym address)
    ∙ (ap (λ n. opcode_of op ∷ half x.depth ++ half (address_of op) ++ word n) (sym constant)
    ∙ ap (λ v. opcode_of v ∷ half x.depth ++ half (address_of v) ++ word (constant_of v)) decoded)))
