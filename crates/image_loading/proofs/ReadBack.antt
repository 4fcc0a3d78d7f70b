-- The bytes of an image's elements are read back.
use Rattle.std.proofs.Common.{◌≡◌, ℕ, suc, ◌^◌, ◌<◌, ℤ, List, [], ◌∷◌, ◌++◌, length, map, take, drop, false, cond, Option, Some, None, refl, sym, ap, ◌∙◌, subst, arith, append_assoc, ⊎_elim}
use Rattle.std.specs.Prelude.{nat_lt, flat_map, unwrap_or}
use Rattle.std.specs.Int.{cast_signed, cast_unsigned, from_be_bytes, w16, w64}
use Rattle.std.proofs.Math.Facts.{Fits-of_z}
use Rattle.std.proofs.Math.Seq.{take-append_seam, drop-append_seam}
use Rattle.std.proofs.lemmas.Bool.Decides.{leb_tells}
use Rattle.std.proofs.lemmas.Int.{to_z-of_z}
use Rattle.std.proofs.lemmas.List.{append-nil, length-append}
use Rattle.std.proofs.lemmas.List.Concat.{flat_map-cons}
use Rattle.std.proofs.lemmas.Nat.{from_be_bytes-to_be_bytes_2, from_be_bytes-to_be_bytes_8}
use Rattle.handlers.specs.declared.rows.Row.{Row}
use Rattle.image.specs.ObjectTable.{ObjectRow}
use Rattle.image.specs.declared.attachments.Attachment.{Attachment}
use Rattle.image.specs.declared.instruction.Instr.{Instr}
use Rattle.image.specs.declared.objects.Barrier.{Barrier}
use Rattle.image.specs.declared.objects.Barrier.TheVariants.{Closed, Open, Word}
use Rattle.image.specs.declared.subprograms.Subprogram.{Subprogram}
use Rattle.image.specs.declared.tasks.Task.{Task}
use Rattle.image_format.specs.Bytes.{address_of, attachment_bytes, barrier_bytes, constant_of, half, instruction_bytes, kind_number, object_bytes, opcode_of, row_bytes, subprogram_bytes, task_bytes, text, word}
use Rattle.image_loading.specs.Loading.{barrier_number, object_of_kind, word_of_barrier}
use Rattle.image_loading.specs.NumberRanges.{AttachmentFits, EachOf, InstructionFits, IsHalf, IsWord, ObjectFits, RowFits, SubprogramFits, TaskNumbersFit}
use Rattle.image_loading.specs.RawRows.{RawObjectRow, RawTaskRow}
use Rattle.image_loading.specs.Reading.{ByteReading, and_then, attachment_row, byte_at, half_at, handler_row, instruction_row, made, object_row, read_attachment, read_bytes, read_instruction, read_many, read_object, read_row, read_subprogram, read_task, read_text, read_word, subprogram_row, word_at}
use Rattle.image_loading.specs.declared.raw_sections.RawInstruction.{RawInstruction}
use Rattle.image_loading.specs.declared.raw_sections.RawSubprogram.{RawSubprogram}

-- what is spelled so is read as the value that stands for it
abbrev pub Back : {X Y : Type 0} → ByteReading Y → (X → List ℕ) → (X → Y) → (X → Type 0) → Type 0
Back {X = X} read spell of fits = (x : X) → fits x → (rest : List ℕ) → read (spell x ++ rest) ≡ Some (of x, rest)

pub bytes_back : (n : ℕ) (front rest : List ℕ) → length front ≡ n → read_bytes n (front ++ rest) ≡ Some (front, rest)
unfolding read_bytes
bytes_back n front rest long = subst (λ m. read_bytes m (front ++ rest) ≡ Some (front, rest)) long whole
  where
    cut : Option (List ℕ × List ℕ)
    cut = Some (take (length front) (front ++ rest), drop (length front) (front ++ rest))

    none : Option (List ℕ × List ℕ)
    none = None

    enough : nat_lt (length (front ++ rest)) (length front) ≡ false
    enough = ⊎_elim (λ h. absurd (omega (arith, length-append front rest, h.1))) (λ h. h.0) (leb_tells (suc (length (front ++ rest))) (length front))

    whole : cond (nat_lt (length (front ++ rest)) (length front)) none cut ≡ Some (front, rest)
    whole = ap (λ b. cond b none cut) enough ∙ (λ j. Some (take-append_seam front rest j, drop-append_seam front rest j))

pub many_back : {X Y : Type 0} (read : ByteReading Y) (spell : X → List ℕ) (of : X → Y) (fits : X → Type 0) → Back read spell of fits → (xs : List X) → EachOf fits xs → (rest : List ℕ) → read_many read (length xs) (flat_map spell xs ++ rest) ≡ Some (map of xs, rest)
unfolding read_many
many_back {Y = Y} read spell of fits back [] each rest = refl
many_back {Y = Y} read spell of fits back (x ∷ xs) each rest =
    let more = flat_map spell xs ++ rest in
    let split : flat_map spell (x ∷ xs) ++ rest ≡ spell x ++ more = ap (λ l. l ++ rest) (flat_map-cons spell x xs) ∙ append_assoc (spell x) (flat_map spell xs) rest in
    let next : Y → ByteReading (List Y) = λ y left. made (λ ys. y ∷ ys) (read_many read (length xs) left) in
    ap (λ b. and_then (read b) next) split
    ∙ (ap (λ r. and_then r next) (back x each.0 more) ∙ ap (made (λ ys. of x ∷ ys)) (many_back read spell of fits back xs each.1 rest))

-- Numbers

pub half_is : (row : List ℕ) (k n : ℕ) (l : List ℕ) → drop k row ≡ half n ++ l → IsHalf n → half_at row k ≡ n
unfolding half_at half
half_is row k n l e small = ap (from_be_bytes w16) e ∙ from_be_bytes-to_be_bytes_2 n small

word_is : (row : List ℕ) (k : ℕ) (z : ℤ) (l : List ℕ) → drop k row ≡ word z ++ l → IsWord z → word_at row k ≡ z
unfolding word_at word
word_is row k z l e fits =
    let small : cast_unsigned w64 z < 2 ^ 64 = (Fits-of_z fits).fits in
    ap (λ b. cast_signed w64 (from_be_bytes w64 b)) e ∙ (ap (cast_signed w64) (from_be_bytes-to_be_bytes_8 (cast_unsigned w64 z) small) ∙ to_z-of_z w64 z fits)

-- Elements

pub text_back : Back read_text text (λ t. t) (λ t. Unit {0})
unfolding read_text byte_at
text_back t fits rest = ap (λ r. and_then r (λ row. read_bytes (byte_at row 0))) (bytes_back 1 (length t ∷ []) (t ++ rest) refl) ∙ bytes_back (length t) t rest refl

pub word_back : Back read_word word (λ z. z) IsWord
unfolding read_word word
word_back z fits rest =
    ap (made (λ row. word_at row 0)) (bytes_back 8 (word z) rest refl) ∙ ap (λ v. Some (v, rest)) (word_is (word z) 0 z [] (sym (append-nil (word z))) fits)

row_same : (r : Row) → RowFits r → handler_row (row_bytes r) ≡ r
unfolding half
row_same r f = λ j. record {
  start = half_is (row_bytes r) 0 r.start (flat_map half (r.end_ ∷ r.exception ∷ r.target ∷ [])) refl f.start j;
  end_ = half_is (row_bytes r) 2 r.end_ (flat_map half (r.exception ∷ r.target ∷ [])) refl f.end_ j;
  exception = half_is (row_bytes r) 4 r.exception (flat_map half (r.target ∷ [])) refl f.exception j;
  target = half_is (row_bytes r) 6 r.target [] refl f.target j;
}

pub row_back : Back read_row row_bytes (λ r. r) RowFits
unfolding read_row half
row_back r fits rest = ap (made handler_row) (bytes_back 8 (row_bytes r) rest refl) ∙ ap (λ v. Some (v, rest)) (row_same r fits)

attachment_same : (a : Attachment) → AttachmentFits a → attachment_row (attachment_bytes a) ≡ a
unfolding half byte_at
attachment_same a f = λ j. record { channel = a.channel; subprogram = half_is (attachment_bytes a) 1 a.subprogram [] refl f j }

pub attachment_back : Back read_attachment attachment_bytes (λ a. a) AttachmentFits
unfolding read_attachment half
attachment_back a fits rest =
    ap (made attachment_row) (bytes_back 3 (attachment_bytes a) rest refl) ∙ ap (λ v. Some (v, rest)) (attachment_same a fits)

abbrev pub raw_subprogram : Subprogram → RawSubprogram
raw_subprogram s = record { kind = kind_number s.kind; object = object_of_kind s.kind; end_ = s.end_; parameters = s.parameters; results = s.results; locals = s.locals; stack = s.stack }

subprogram_same : (s : Subprogram) → SubprogramFits s → subprogram_row (subprogram_bytes s) ≡ raw_subprogram s
unfolding half byte_at
subprogram_same s f = λ j. record {
  kind = kind_number s.kind;
  object = half_is (subprogram_bytes s) 1 (object_of_kind s.kind) (flat_map half (s.end_ ∷ s.parameters ∷ s.results ∷ s.locals ∷ s.stack ∷ [])) refl f.object j;
  end_ = half_is (subprogram_bytes s) 3 s.end_ (flat_map half (s.parameters ∷ s.results ∷ s.locals ∷ s.stack ∷ [])) refl f.end_ j;
  parameters = half_is (subprogram_bytes s) 5 s.parameters (flat_map half (s.results ∷ s.locals ∷ s.stack ∷ [])) refl f.parameters j;
  results = half_is (subprogram_bytes s) 7 s.results (flat_map half (s.locals ∷ s.stack ∷ [])) refl f.results j;
  locals = half_is (subprogram_bytes s) 9 s.locals (flat_map half (s.stack ∷ [])) refl f.locals j;
  stack = half_is (subprogram_bytes s) 11 s.stack [] refl f.stack j;
}

pub subprogram_back : Back read_subprogram subprogram_bytes raw_subprogram SubprogramFits
unfolding read_subprogram half
subprogram_back s fits rest = ap (made subprogram_row) (bytes_back 13 (subprogram_bytes s) rest refl) ∙ ap (λ v. Some (v, rest)) (subprogram_same s fits)

abbrev pub raw_instruction : Instr → RawInstruction
raw_instruction x = record { opcode = opcode_of x.operation; depth = x.depth; address = address_of x.operation; constant = constant_of x.operation }

instruction_same : (x : Instr) → InstructionFits x → instruction_row (instruction_bytes x) ≡ raw_instruction x
unfolding half word byte_at
instruction_same x f = λ j. record {
  opcode = opcode_of x.operation;
  depth = half_is (instruction_bytes x) 1 x.depth (half (address_of x.operation) ++ word (constant_of x.operation)) refl f.depth j;
  address = half_is (instruction_bytes x) 3 (address_of x.operation) (word (constant_of x.operation)) refl f.address j;
  constant = word_is (instruction_bytes x) 5 (constant_of x.operation) [] refl f.constant j;
}

pub instruction_back : Back read_instruction instruction_bytes raw_instruction InstructionFits
unfolding read_instruction half word
instruction_back x fits rest = ap (made instruction_row) (bytes_back 13 (instruction_bytes x) rest refl) ∙ ap (λ v. Some (v, rest)) (instruction_same x fits)

abbrev pub raw_task : Task → RawTaskRow
raw_task t = record { name = t.name; priority = t.priority; subprogram = t.subprogram }

pub task_back : Back read_task task_bytes raw_task TaskNumbersFit
unfolding read_task half byte_at
task_back t fits rest =
    let row = t.priority ∷ half t.subprogram in
    let next : List ℕ → ByteReading RawTaskRow = λ name left. made (λ row. record { name = name; priority = byte_at row 0; subprogram = half_at row 1 }) (read_bytes 3 left) in
    ap (λ b. and_then (read_text b) next) (append_assoc (text t.name) row rest)
    ∙ (ap (λ r. and_then r next) (text_back t.name tt (row ++ rest))
    ∙ (ap (made (λ row. record { name = t.name; priority = byte_at row 0; subprogram = half_at row 1 })) (bytes_back 3 row rest refl)
    ∙ ap (λ v. Some (record { name = t.name; priority = t.priority; subprogram = v }, rest)) (half_is row 1 t.subprogram [] refl fits)))

abbrev pub raw_object : ObjectRow → RawObjectRow
raw_object o = record { ceiling = o.ceiling; entry = unwrap_or o.entry 65535; barrier = barrier_number o.barrier; barrier_word = word_of_barrier o.barrier; words = o.words }

-- what stands before the words of an object
abbrev object_front : ObjectRow → List ℕ
object_front o = o.ceiling ∷ half (unwrap_or o.entry 65535) ++ (barrier_number o.barrier ∷ half (word_of_barrier o.barrier)) ++ half (length o.words)

barrier_same : (b : Barrier) → barrier_bytes b ≡ barrier_number b ∷ half (word_of_barrier b)
barrier_same Closed = refl
barrier_same Open = refl
barrier_same (Word w) = refl

object_apart : (o : ObjectRow) → object_bytes o ≡ object_front o ++ flat_map word o.words
object_apart o = ap (λ l. o.ceiling ∷ half (unwrap_or o.entry 65535) ++ l ++ half (length o.words) ++ flat_map word o.words) (barrier_same o.barrier)

pub map_itself : {X : Type 0} (xs : List X) → map (λ x. x) xs ≡ xs
map_itself [] = refl
map_itself (x ∷ xs) = ap (λ ys. x ∷ ys) (map_itself xs)

front_same : (o : ObjectRow) → ObjectFits o → object_row (object_front o) o.words ≡ raw_object o
unfolding half byte_at
front_same o f = λ j. record {
  ceiling = o.ceiling;
  entry = half_is (object_front o) 1 (unwrap_or o.entry 65535) ((barrier_number o.barrier ∷ half (word_of_barrier o.barrier)) ++ half (length o.words)) refl f.entry j;
  barrier = barrier_number o.barrier;
  barrier_word = half_is (object_front o) 4 (word_of_barrier o.barrier) (half (length o.words)) refl f.word j;
  words = o.words;
}

-- of objects whose words can be counted in 16 bits
pub record ObjectFitsWhole (o : ObjectRow) : Type 0 where
  pub numbers : ObjectFits o
  pub size : IsHalf (length o.words)

pub object_back : Back read_object object_bytes raw_object ObjectFitsWhole
unfolding read_object half
object_back o f rest =
    let front = object_front o in
    let words = flat_map word o.words in
    let next : List ℕ → ByteReading RawObjectRow = λ row left. made (object_row row) (read_many read_word (half_at row 6) left) in
    let size : half_at front 6 ≡ length o.words = half_is front 6 (length o.words) [] refl f.size in
    let read_words : read_many read_word (half_at front 6) (words ++ rest) ≡ Some (o.words, rest) =
    ap (λ n. read_many read_word n (words ++ rest)) size ∙ (many_back read_word word (λ z. z) IsWord word_back o.words f.numbers.words rest ∙ ap (λ v. Some (v, rest)) (map_itself o.words)) in
    ap (λ b. and_then (read_bytes 8 b) next) (ap (λ l. l ++ rest) (object_apart o) ∙ append_assoc front words rest)
    ∙ (ap (λ r. and_then r next) (bytes_back 8 front (words ++ rest) refl) ∙ (ap (made (object_row front)) read_words ∙ ap (λ v. Some (v, rest)) (front_same o f.numbers)))
