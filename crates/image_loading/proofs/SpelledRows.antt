-- What is read of each kind of element is what its bytes spell.
use Rattle.std.proofs.Common.{◌≡◌, ℕ, ◌+◌, ◌≤◌, List, [], ◌∷◌, ◌++◌, length, drop, refl, sym, ap, ◌∙◌, subst, arith, append_assoc}
use Rattle.std.specs.Prelude.{flat_map}
use Rattle.std.proofs.lemmas.List.{append-nil}
use Rattle.std.proofs.Math.ListN.{drop_of_length-le}
use Rattle.image_format.specs.Bytes.{attachment_bytes, half, row_bytes, text, word}
use Rattle.image_loading.specs.RawRows.{RawObjectRow, RawTaskRow}
use Rattle.image_loading.specs.Reading.{attachment_row, byte_at, half_at, handler_row, instruction_row, made, object_row, read_attachment, read_bytes, read_instruction, read_many, read_object, read_row, read_subprogram, read_task, read_text, read_word, subprogram_row, word_at}
use Rattle.image_loading.specs.declared.raw_sections.RawInstruction.{RawInstruction}
use Rattle.image_loading.specs.declared.raw_sections.RawSubprogram.{RawSubprogram}
use Rattle.image_loading.proofs.Spelled.{IsBytes, Reads, Spells, bound, byte_step, half_step, made_of, many_read, piece_read, spells_as, spells_then, word_step}

-- The bytes of raw elements

abbrev pub raw_subprogram_bytes : RawSubprogram → List ℕ
raw_subprogram_bytes s = s.kind ∷ flat_map half (s.object ∷ s.end_ ∷ s.parameters ∷ s.results ∷ s.locals ∷ s.stack ∷ [])

abbrev pub raw_instruction_bytes : RawInstruction → List ℕ
raw_instruction_bytes x = x.opcode ∷ half x.depth ++ half x.address ++ word x.constant

abbrev pub raw_object_bytes : RawObjectRow → List ℕ
raw_object_bytes o = o.ceiling ∷ half o.entry ++ (o.barrier ∷ half o.barrier_word) ++ half (length o.words) ++ flat_map word o.words

abbrev pub raw_task_bytes : RawTaskRow → List ℕ
raw_task_bytes t = text t.name ++ t.priority ∷ half t.subprogram

pub ended : (row : List ℕ) (n : ℕ) → length row ≡ n → [] ≡ drop n row
ended row n e = sym (drop_of_length-le row (omega (arith, e)))

pub half_chain : (row : List ℕ) (n k m : ℕ) (tail : List ℕ) → length row ≡ n → IsBytes row → m ≡ k + 2 → m ≤ n → tail ≡ drop m row → half (half_at row k) ++ tail ≡ drop k row
half_chain row n k m tail long fits is le e = ap (λ t. half (half_at row k) ++ t) e ∙ half_step row k m is fits (omega (arith, long))

pub text_read : Reads read_text text
unfolding read_text
text_read bytes x fits e =
    let a = bound (read_bytes 1 bytes) (λ row. read_bytes (byte_at row 0)) x e in
    let p = piece_read 1 bytes a.0 fits a.1 in
    let row = a.0.0 in
    let q = piece_read (byte_at row 0) a.0.1 x p.spells.fits a.2 in
    let one : row ≡ byte_at row 0 ∷ [] = sym (byte_step row 0 (omega (arith, p.long))) ∙ ap (λ t. byte_at row 0 ∷ t) (sym (ended row 1 p.long)) in
    spells_as bytes (row ++ x.0) (text x.0) x.1 (ap (λ t. t ++ x.0) one ∙ ap (λ n. n ∷ x.0) (sym q.long)) (spells_then bytes row a.0.1 x.0 x.1 p.spells q.spells)

pub word_read : Reads read_word word
unfolding read_word
word_read bytes x fits e =
    let a = made_of (read_bytes 8 bytes) (λ row. word_at row 0) x e in
    let p = piece_read 8 bytes a.0 fits a.1 in
    let row = a.0.0 in
    let one : row ≡ word (word_at row 0) = sym (word_step row 0 8 refl p.row_fits (omega (arith, p.long))) ∙ (ap (λ t. word (word_at row 0) ++ t) (sym (ended row 8 p.long)) ∙ append-nil (word (word_at row 0))) in
    subst (λ y. Spells bytes (word y.0) y.1) a.2 (spells_as bytes row (word (word_at row 0)) a.0.1 one p.spells)

pub row_read : Reads read_row row_bytes
unfolding read_row
row_read bytes x fits e =
    let a = made_of (read_bytes 8 bytes) handler_row x e in
    let p = piece_read 8 bytes a.0 fits a.1 in
    let row = a.0.0 in
    let whole : row_bytes (handler_row row) ≡ row =
    half_chain row 8 0 2 _ p.long p.row_fits refl (omega arith)
    (half_chain row 8 2 4 _ p.long p.row_fits refl (omega arith)
    (half_chain row 8 4 6 _ p.long p.row_fits refl (omega arith) (half_chain row 8 6 8 [] p.long p.row_fits refl (omega arith) (ended row 8 p.long)))) in
    subst (λ y. Spells bytes (row_bytes y.0) y.1) a.2 (spells_as bytes row (row_bytes (handler_row row)) a.0.1 (sym whole) p.spells)

pub attachment_read : Reads read_attachment attachment_bytes
unfolding read_attachment
attachment_read bytes x fits e =
    let a = made_of (read_bytes 3 bytes) attachment_row x e in
    let p = piece_read 3 bytes a.0 fits a.1 in
    let row = a.0.0 in
    let halves : half (half_at row 1) ≡ drop 1 row =
    sym (append-nil (half (half_at row 1))) ∙ half_chain row 3 1 3 [] p.long p.row_fits refl (omega arith) (ended row 3 p.long) in
    let whole : attachment_bytes (attachment_row row) ≡ row = ap (λ t. byte_at row 0 ∷ t) halves ∙ byte_step row 0 (omega (arith, p.long)) in
    subst (λ y. Spells bytes (attachment_bytes y.0) y.1) a.2 (spells_as bytes row (attachment_bytes (attachment_row row)) a.0.1 (sym whole) p.spells)

pub subprogram_read : Reads read_subprogram raw_subprogram_bytes
unfolding read_subprogram
subprogram_read bytes x fits e =
    let a = made_of (read_bytes 13 bytes) subprogram_row x e in
    let p = piece_read 13 bytes a.0 fits a.1 in
    let row = a.0.0 in
    let halves =
    half_chain row 13 1 3 _ p.long p.row_fits refl (omega arith)
    (half_chain row 13 3 5 _ p.long p.row_fits refl (omega arith)
    (half_chain row 13 5 7 _ p.long p.row_fits refl (omega arith)
    (half_chain row 13 7 9 _ p.long p.row_fits refl (omega arith)
    (half_chain row 13 9 11 _ p.long p.row_fits refl (omega arith) (half_chain row 13 11 13 [] p.long p.row_fits refl (omega arith) (ended row 13 p.long)))))) in
    let whole : raw_subprogram_bytes (subprogram_row row) ≡ row = ap (λ t. byte_at row 0 ∷ t) halves ∙ byte_step row 0 (omega (arith, p.long)) in
    subst (λ y. Spells bytes (raw_subprogram_bytes y.0) y.1) a.2 (spells_as bytes row (raw_subprogram_bytes (subprogram_row row)) a.0.1 (sym whole) p.spells)

pub instruction_read : Reads read_instruction raw_instruction_bytes
unfolding read_instruction
instruction_read bytes x fits e =
    let a = made_of (read_bytes 13 bytes) instruction_row x e in
    let p = piece_read 13 bytes a.0 fits a.1 in
    let row = a.0.0 in
    let last : word (word_at row 5) ≡ drop 5 row = sym (append-nil (word (word_at row 5))) ∙ (ap (λ t. word (word_at row 5) ++ t) (ended row 13 p.long) ∙ word_step row 5 13 refl p.row_fits (omega (arith, p.long))) in
    let fields = half_chain row 13 1 3 _ p.long p.row_fits refl (omega arith) (half_chain row 13 3 5 (word (word_at row 5)) p.long p.row_fits refl (omega arith) last) in
    let whole : raw_instruction_bytes (instruction_row row) ≡ row =
    ap (λ t. byte_at row 0 ∷ t) (append_assoc (half (half_at row 1)) (half (half_at row 3)) (word (word_at row 5)) ∙ fields) ∙ byte_step row 0 (omega (arith, p.long)) in
    subst (λ y. Spells bytes (raw_instruction_bytes y.0) y.1) a.2 (spells_as bytes row (raw_instruction_bytes (instruction_row row)) a.0.1 (sym whole) p.spells)

pub task_read : Reads read_task raw_task_bytes
unfolding read_task
task_read bytes x fits e =
    let a = bound (read_text bytes) (λ name left. made (λ row. record { name = name; priority = byte_at row 0; subprogram = half_at row 1 }) (read_bytes 3 left)) x e in
    let t = text_read bytes a.0 fits a.1 in
    let name = a.0.0 in
    let b = made_of (read_bytes 3 a.0.1) (λ row. record { name = name; priority = byte_at row 0; subprogram = half_at row 1 }) x a.2 in
    let p = piece_read 3 a.0.1 b.0 t.fits b.1 in
    let row = b.0.0 in
    let halves : half (half_at row 1) ≡ drop 1 row = sym (append-nil (half (half_at row 1))) ∙ half_chain row 3 1 3 [] p.long p.row_fits refl (omega arith) (ended row 3 p.long) in
    let whole : byte_at row 0 ∷ half (half_at row 1) ≡ row = ap (λ t. byte_at row 0 ∷ t) halves ∙ byte_step row 0 (omega (arith, p.long)) in
    subst (λ y. Spells bytes (raw_task_bytes y.0) y.1) b.2
    (spells_as bytes (text name ++ row) (text name ++ byte_at row 0 ∷ half (half_at row 1)) b.0.1 (ap (λ t. text name ++ t) (sym whole)) (spells_then bytes (text name) a.0.1 row b.0.1 t p.spells))

pub object_read : Reads read_object raw_object_bytes
unfolding read_object
object_read bytes x fits e =
    let a = bound (read_bytes 8 bytes) (λ row left. made (object_row row) (read_many read_word (half_at row 6) left)) x e in
    let p = piece_read 8 bytes a.0 fits a.1 in
    let row = a.0.0 in
    let b = made_of (read_many read_word (half_at row 6) a.0.1) (object_row row) x a.2 in
    let m = many_read read_word word word_read (half_at row 6) a.0.1 b.0 p.spells.fits b.1 in
    let words = b.0.0 in
    let fm = flat_map word words in
    let size : half (length words) ++ [] ≡ drop 6 row = ap (λ n. half n ++ []) m.1 ∙ half_chain row 8 6 8 [] p.long p.row_fits refl (omega arith) (ended row 8 p.long) in
    let opening : byte_at row 3 ∷ (half (half_at row 4) ++ (half (length words) ++ [])) ≡ drop 3 row = ap (λ t. byte_at row 3 ∷ t) (half_chain row 8 4 6 _ p.long p.row_fits refl (omega arith) size) ∙ byte_step row 3 (omega (arith, p.long)) in
    let entry = half_chain row 8 1 3 _ p.long p.row_fits refl (omega arith) opening in
    let whole : byte_at row 0 ∷ (half (half_at row 1) ++ (byte_at row 3 ∷ (half (half_at row 4) ++ (half (length words) ++ [])))) ≡ row = ap (λ t. byte_at row 0 ∷ t) entry ∙ byte_step row 0 (omega (arith, p.long)) in
    let regrouped : row ++ fm ≡ raw_object_bytes (object_row row words) = ap (λ t. t ++ fm) (sym whole) ∙ ap (λ t. byte_at row 0 ∷ t ++ fm) (joined (half (half_at row 1)) (byte_at row 3) (half (half_at row 4)) (half (length words))) in
    subst (λ y. Spells bytes (raw_object_bytes y.0) y.1) b.2 (spells_as bytes (row ++ fm) (raw_object_bytes (object_row row words)) b.0.1 regrouped (spells_then bytes row a.0.1 fm b.0.1 p.spells m.0))
  where
    joined : (a : List ℕ) (n : ℕ) (b c : List ℕ) → a ++ (n ∷ (b ++ (c ++ []))) ≡ a ++ (n ∷ b) ++ c
    joined a n b c = ap (λ t. a ++ (n ∷ (b ++ t))) (append-nil c) ∙ sym (append_assoc a (n ∷ b) c)
