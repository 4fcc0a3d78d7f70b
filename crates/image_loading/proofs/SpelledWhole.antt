-- All sections at once: bytes that break no rule are the bytes of the image that they give.
use Rattle.std.proofs.Common.{◌≡◌, ℕ, ℤ, ◌+◌, ◌≤◌, ◌<◌, ◌⊎◌, inl, inr, List, [], ◌∷◌, ◌++◌, length, take, drop, min, Bool, true, false, cond, Some, refl, sym, ap, ◌∙◌, subst, arith, append_assoc, ⊎_elim}
use Rattle.std.specs.Prelude.{flat_map, bytes_eq, nat_eq, nat_le, not, ◌&&◌, ◌||◌, if◌then◌else◌}
use Rattle.std.proofs.lemmas.Bool.{and_parts, leb-true, true≢false}
use Rattle.std.proofs.lemmas.List.{append-nil, length-append, take-append-drop, take-append-le}
use Rattle.std.proofs.lemmas.Slice.Eq.{bytes_eq-Decides}
use Rattle.base.specs.declared.limits.TheConstants.{CHANNELS}
use Rattle.image.specs.Rules.{is_within}
use Rattle.image.specs.declared.attachments.Attachment.{Attachment}
use Rattle.image_format.specs.Bytes.{attached_count, attachment_bytes, bytes_of, code_bytes, data_bytes, half, header_bytes, name_bytes, row_bytes, table_bytes, text, version_of, word}
use Rattle.image_loading.specs.Decoding.{instruction_of, object_from, sections_of, subprogram_from, task_from, text_from}
use Rattle.image_loading.specs.FaultOrder.{rule}
use Rattle.image_loading.specs.Loading.{agrees, has_version, header_faults, magic, magic_and_version, sections_faults}
use Rattle.handlers.specs.declared.rows.Row.{Row}
use Rattle.image_loading.specs.RawRows.{RawObjectRow, RawTaskRow}
use Rattle.image_loading.specs.declared.raw_sections.RawInstruction.{RawInstruction}
use Rattle.image_loading.specs.declared.raw_sections.RawSubprogram.{RawSubprogram}
use Rattle.image_loading.specs.Reading.{Raw, counts_row, half_at, made, read_attached_count, read_attachment, read_bytes, read_counts, read_image, read_instruction, read_many, read_object, read_raw, read_row, read_subprogram, read_task, read_text, read_word}
use Rattle.base.specs.declared.faults.TheConstants.{TABLES_DISAGREE, WRONG_HEADER}
use Rattle.image_loading.specs.declared.reading.Counts.{Counts}
use Rattle.image_loading.proofs.Accepted.{append_none, kept, kept_where, length_map}
use Rattle.image_loading.proofs.AcceptedSections.{Clear, clear}
use Rattle.image_loading.proofs.ReadBack.{half_is}
use Rattle.image_loading.proofs.ReadSteps.{raw_with, then_attachments, then_instructions, then_labels, then_objects, then_rows, then_subprograms, then_tasks, then_words}
use Rattle.image_loading.proofs.Spelled.{IsBytes, Piece, Spells, bound, made_of, many_read, piece_read, some_pair, spells_as, spells_then, take_all}
use Rattle.image_loading.proofs.SpelledImage.{exceptions_same, instructions_same, labels_same, objects_same, subprograms_same, tasks_same}
use Rattle.image_loading.proofs.SpelledRows.{attachment_read, ended, half_chain, instruction_read, object_read, raw_instruction_bytes, raw_object_bytes, raw_subprogram_bytes, raw_task_bytes, row_read, subprogram_read, task_read, text_read, word_read}

-- the bytes of raw sections, behind the header
abbrev raw_bytes : Raw → List ℕ
raw_bytes r =
    (flat_map text r.exceptions ++ flat_map text r.labels)
    ++ (flat_map word r.plain_words ++ flat_map raw_object_bytes r.objects)
    ++ (
    flat_map raw_subprogram_bytes r.subprograms
    ++ flat_map raw_task_bytes r.tasks
    ++ flat_map row_bytes r.rows
    ++ flat_map attachment_bytes r.attachments
    )
    ++ flat_map raw_instruction_bytes r.instructions

-- as many elements as were asked for, and their bytes
abbrev Taken : {X : Type 0} → (X → List ℕ) → ℕ → List ℕ → List X → List ℕ → Type 0
Taken spell n bytes xs behind = Spells bytes (flat_map spell xs) behind × (length xs ≡ n)

record RawRead (c : Counts) (bytes : List ℕ) (x : Raw × List ℕ) : Type 0 where
  pub spells : Spells bytes (raw_bytes x.0) x.1
  pub version_is : x.0.version ≡ c.version
  pub exceptions_many : length x.0.exceptions ≡ c.exceptions
  pub labels_many : length x.0.labels ≡ c.labels
  pub plain_words_many : length x.0.plain_words ≡ c.plain_words
  pub objects_many : length x.0.objects ≡ c.objects
  pub subprograms_many : length x.0.subprograms ≡ c.subprograms
  pub tasks_many : length x.0.tasks ≡ c.tasks
  pub rows_many : length x.0.rows ≡ c.rows
  pub attachments_many : length x.0.attachments ≡ c.attachments
  pub instructions_many : length x.0.instructions ≡ c.instructions

-- section by section, each with what was read before it
module _ (c : Counts) (b0 : List ℕ) (x : Raw × List ℕ) where
  module _ (e : List (List ℕ)) (b1 : List ℕ) (p1 : Taken text c.exceptions b0 e b1) where
    module _ (l : List (List ℕ)) (b2 : List ℕ) (p2 : Taken text c.labels b1 l b2) where
      module _ (w : List ℤ) (b3 : List ℕ) (p3 : Taken word c.plain_words b2 w b3) where
        module _ (o : List RawObjectRow) (b4 : List ℕ) (p4 : Taken raw_object_bytes c.objects b3 o b4) where
          module _ (s : List RawSubprogram) (b5 : List ℕ) (p5 : Taken raw_subprogram_bytes c.subprograms b4 s b5) where
            module _ (t : List RawTaskRow) (b6 : List ℕ) (p6 : Taken raw_task_bytes c.tasks b5 t b6) where
              module _ (r : List Row) (b7 : List ℕ) (p7 : Taken row_bytes c.rows b6 r b7) where
                module _ (a : List Attachment) (b8 : List ℕ) (p8 : Taken attachment_bytes c.attachments b7 a b8) where
                  abbrev names : List ℕ
                  names = flat_map text e ++ flat_map text l

                  abbrev stored : List ℕ
                  stored = flat_map word w ++ flat_map raw_object_bytes o

                  abbrev bodies : List ℕ
                  bodies = flat_map raw_subprogram_bytes s ++ flat_map raw_task_bytes t

                  abbrev tables : List ℕ
                  tables = bodies ++ flat_map row_bytes r ++ flat_map attachment_bytes a

                  front : Spells b0 (names ++ stored) b4
                  front =
                      spells_then b0 names b2 stored b4 (spells_then b0 (flat_map text e) b1 (flat_map text l) b2 p1.0 p2.0)
                      (spells_then b2 (flat_map word w) b3 (flat_map raw_object_bytes o) b4 p3.0 p4.0)

                  all_tables : Spells b4 tables b8
                  all_tables =
                      spells_then b4 (bodies ++ flat_map row_bytes r) b7 (flat_map attachment_bytes a) b8
                      (spells_then b4 bodies b6 (flat_map row_bytes r) b7
                      (spells_then b4 (flat_map raw_subprogram_bytes s) b5 (flat_map raw_task_bytes t) b6 p5.0 p6.0) p7.0)
                      p8.0

                  assembled : (k : List RawInstruction) (b9 : List ℕ) → Taken raw_instruction_bytes c.instructions b8 k b9
                      → RawRead c b0 (raw_with c.version e l w o s t r a k, b9)
                  assembled k b9 p9 = record {
                    spells =
                        spells_then b0 (names ++ stored ++ tables) b8 (flat_map raw_instruction_bytes k) b9
                        (spells_then b0 (names ++ stored) b4 tables b8 front all_tables) p9.0;
                    version_is = refl;
                    exceptions_many = p1.1;
                    labels_many = p2.1;
                    plain_words_many = p3.1;
                    objects_many = p4.1;
                    subprograms_many = p5.1;
                    tasks_many = p6.1;
                    rows_many = p7.1;
                    attachments_many = p8.1;
                    instructions_many = p9.1;
                  }

                  from_instructions : IsBytes b8 → then_instructions c e l w o s t r a b8 ≡ Some x → RawRead c b0 x
                  from_instructions fits h =
                      let y = made_of (read_many read_instruction c.instructions b8) (raw_with c.version e l w o s t r a) x h in
                      let m = many_read read_instruction raw_instruction_bytes instruction_read c.instructions b8 y.0 fits y.1 in
                      subst (RawRead c b0) y.2 (assembled y.0.0 y.0.1 m)

                from_attachments : IsBytes b7 → then_attachments c e l w o s t r b7 ≡ Some x → RawRead c b0 x
                from_attachments fits h =
                    let y = bound (read_many read_attachment c.attachments b7) (then_instructions c e l w o s t r) x h in
                    let m = many_read read_attachment attachment_bytes attachment_read c.attachments b7 y.0 fits y.1 in
                    from_instructions y.0.0 y.0.1 m m.0.fits y.2

              from_rows : IsBytes b6 → then_rows c e l w o s t b6 ≡ Some x → RawRead c b0 x
              from_rows fits h =
                  let y = bound (read_many read_row c.rows b6) (then_attachments c e l w o s t) x h in
                  let m = many_read read_row row_bytes row_read c.rows b6 y.0 fits y.1 in
                  from_attachments y.0.0 y.0.1 m m.0.fits y.2

            from_tasks : IsBytes b5 → then_tasks c e l w o s b5 ≡ Some x → RawRead c b0 x
            from_tasks fits h =
                let y = bound (read_many read_task c.tasks b5) (then_rows c e l w o s) x h in
                let m = many_read read_task raw_task_bytes task_read c.tasks b5 y.0 fits y.1 in
                from_rows y.0.0 y.0.1 m m.0.fits y.2

          from_subprograms : IsBytes b4 → then_subprograms c e l w o b4 ≡ Some x → RawRead c b0 x
          from_subprograms fits h =
              let y = bound (read_many read_subprogram c.subprograms b4) (then_tasks c e l w o) x h in
              let m = many_read read_subprogram raw_subprogram_bytes subprogram_read c.subprograms b4 y.0 fits y.1 in
              from_tasks y.0.0 y.0.1 m m.0.fits y.2

        from_objects : IsBytes b3 → then_objects c e l w b3 ≡ Some x → RawRead c b0 x
        from_objects fits h =
            let y = bound (read_many read_object c.objects b3) (then_subprograms c e l w) x h in
            let m = many_read read_object raw_object_bytes object_read c.objects b3 y.0 fits y.1 in
            from_subprograms y.0.0 y.0.1 m m.0.fits y.2

      from_words : IsBytes b2 → then_words c e l b2 ≡ Some x → RawRead c b0 x
      from_words fits h =
          let y = bound (read_many read_word c.plain_words b2) (then_objects c e l) x h in
          let m = many_read read_word word word_read c.plain_words b2 y.0 fits y.1 in
          from_objects y.0.0 y.0.1 m m.0.fits y.2

    from_labels : IsBytes b1 → then_labels c e b1 ≡ Some x → RawRead c b0 x
    from_labels fits h =
        let y = bound (read_many read_text c.labels b1) (then_words c e) x h in
        let m = many_read read_text text text_read c.labels b1 y.0 fits y.1 in
        from_words y.0.0 y.0.1 m m.0.fits y.2

raw_read : (c : Counts) (bytes : List ℕ) (x : Raw × List ℕ) → IsBytes bytes → read_raw c bytes ≡ Some x → RawRead c bytes x
unfolding read_raw
raw_read c bytes x fits h =
    let y = bound (read_many read_text c.exceptions bytes) (then_labels c) x h in
    let m = many_read read_text text text_read c.exceptions bytes y.0 fits y.1 in
    from_labels c bytes x y.0.0 y.0.1 m m.0.fits y.2

-- The header

front_is : (front bytes row behind : List ℕ) → Piece 22 bytes row behind → length front ≤ 22 → agrees front bytes ≡ true → take (length front) row ≡ front
front_is front bytes row behind p short e =
    let n = length front in
    let long : length bytes ≡ length row + length behind = ap length p.spells.parts ∙ length-append row behind in
    let whole : min n (length bytes) ≡ n = omega (arith, long, p.long, short) in
    let same : bytes_eq (take n front) (take n bytes) ≡ true = subst (λ m. bytes_eq (take m front) (take m bytes) ≡ true) whole e in
    let there : take n bytes ≡ take n row = ap (take n) p.spells.parts ∙ take-append-le n row behind (omega (arith, p.long, short)) in
    sym there ∙ (sym ((bytes_eq-Decides (take n front) (take n bytes)).0 same) ∙ take_all front)

one_or_other : (a b : Bool) → (a || b) ≡ true → (a ≡ true) ⊎ (b ≡ true)
one_or_other true b e = inl refl
one_or_other false b e = inr e

version_there : (v : ℕ) (row : List ℕ) → take 6 row ≡ magic_and_version v → half v ≡ 0 ∷ v ∷ [] → v < 65536 → half_at row 4 ≡ v
version_there v row e spelled small =
    half_is row 4 v (drop 6 row)
    (ap (drop 4) (sym (take-append-drop 6 row) ∙ ap (λ t. t ++ drop 6 row) e) ∙ ap (λ t. t ++ drop 6 row) (sym spelled))
    small

version_is_known : (bytes row behind : List ℕ) → Piece 22 bytes row behind → has_version bytes ≡ true → (half_at row 4 ≡ 1) ⊎ (half_at row 4 ≡ 2)
unfolding half
version_is_known bytes row behind p e =
    ⊎_elim
    (λ first. inl (version_there 1 row (front_is (magic_and_version 1) bytes row behind p (omega arith) first) refl (omega arith)))
    (λ second. inr (version_there 2 row (front_is (magic_and_version 2) bytes row behind p (omega arith) second) refl (omega arith)))
    (one_or_other (agrees (magic_and_version 1) bytes) (agrees (magic_and_version 2) bytes) e)

-- the bytes of version and counts
abbrev count_bytes : Counts → List ℕ
count_bytes c =
    flat_map half (c.version ∷ c.instructions ∷ c.subprograms ∷ c.objects ∷ c.tasks ∷ c.exceptions ∷ c.rows ∷ c.labels ∷ c.plain_words ∷ [])
    ++ flat_map half (if nat_eq c.version 2 then c.attachments ∷ [] else [])

row_is : (bytes row behind : List ℕ) → Piece 22 bytes row behind → agrees magic bytes ≡ true
    → row ≡ magic ++ flat_map half (half_at row 4 ∷ half_at row 6 ∷ half_at row 8 ∷ half_at row 10 ∷ half_at row 12 ∷ half_at row 14 ∷ half_at row 16
    ∷ half_at row 18 ∷ half_at row 20 ∷ [])
unfolding half
row_is bytes row behind p e =
    let halves =
    half_chain row 22 4 6 _ p.long p.row_fits refl (omega arith)
    (half_chain row 22 6 8 _ p.long p.row_fits refl (omega arith)
    (half_chain row 22 8 10 _ p.long p.row_fits refl (omega arith)
    (half_chain row 22 10 12 _ p.long p.row_fits refl (omega arith)
    (half_chain row 22 12 14 _ p.long p.row_fits refl (omega arith)
    (half_chain row 22 14 16 _ p.long p.row_fits refl (omega arith)
    (half_chain row 22 16 18 _ p.long p.row_fits refl (omega arith)
    (half_chain row 22 18 20 _ p.long p.row_fits refl (omega arith)
    (half_chain row 22 20 22 [] p.long p.row_fits refl (omega arith) (ended row 22 p.long))))))))) in
    sym (take-append-drop 4 row) ∙ (ap (λ t. t ++ drop 4 row) (front_is magic bytes row behind p (omega arith) e) ∙ ap (λ t. magic ++ t) (sym halves))

-- the ninth count is that of version 2; there are no attachments without it
record NinthRead (version : ℕ) (bytes : List ℕ) (y : ℕ × List ℕ) : Type 0 where
  pub spells : Spells bytes (flat_map half (if nat_eq version 2 then y.0 ∷ [] else [])) y.1
  pub none : nat_eq version 2 ≡ false → y.0 ≡ 0

ninth_read : (version : ℕ) (bytes : List ℕ) (y : ℕ × List ℕ) → IsBytes bytes → read_attached_count version bytes ≡ Some y → NinthRead version bytes y
unfolding read_attached_count
ninth_read version bytes y fits e = let p = by_version (nat_eq version 2) e in record { spells = p.0; none = p.1 }
  where
    by_version : (b : Bool) → cond b (made (λ row. half_at row 0) (read_bytes 2 bytes)) (Some (0, bytes)) ≡ Some y
        → Spells bytes (flat_map half (cond b (y.0 ∷ []) [])) y.1 × (b ≡ false → y.0 ≡ 0)
    by_version true h =
        let a = made_of (read_bytes 2 bytes) (λ row. half_at row 0) y h in
        let p = piece_read 2 bytes a.0 fits a.1 in
        let row = a.0.0 in
        let whole : half (half_at row 0) ++ [] ≡ row = half_chain row 2 0 2 [] p.long p.row_fits refl (omega arith) (ended row 2 p.long) in (
          subst (λ z. Spells bytes (flat_map half (z.0 ∷ [])) z.1) a.2 (spells_as bytes row (half (half_at row 0) ++ []) a.0.1 (sym whole) p.spells),
          λ f. absurd (true≢false f),
        )
    by_version false h =
        let same = some_pair (0, bytes) y h in
        (subst (λ z. Spells bytes [] z.1) same (record { parts = refl; fits = fits }), λ f. ap (λ z. z.0) (sym same))

record HeaderRead (bytes : List ℕ) (x : Counts × List ℕ) : Type 0 where
  pub spells : Spells bytes (magic ++ count_bytes x.0) x.1
  pub version : (x.0.version ≡ 1) ⊎ (x.0.version ≡ 2)
  pub none : nat_eq x.0.version 2 ≡ false → x.0.attachments ≡ 0

header_read : (bytes : List ℕ) (x : Counts × List ℕ) → IsBytes bytes → header_faults bytes ≡ [] → read_counts bytes ≡ Some x → HeaderRead bytes x
unfolding read_counts
header_read bytes x fits header e =
    let y = bound (read_bytes 22 bytes) (λ row left. made (counts_row row) (read_attached_count (half_at row 4) left)) x e in
    let p = piece_read 22 bytes y.0 fits y.1 in
    let row = y.0.0 in
    let z = made_of (read_attached_count (half_at row 4) y.0.1) (counts_row row) x y.2 in
    let ninth = ninth_read (half_at row 4) y.0.1 z.0 p.spells.fits z.1 in
    let h = append_none (rule WRONG_HEADER 0 (not (agrees magic bytes))) (rule WRONG_HEADER 4 (agrees magic bytes && not (has_version bytes))) header in
    let begins = kept WRONG_HEADER 0 (agrees magic bytes) h.0 in
    let tail = flat_map half (if nat_eq (half_at row 4) 2 then z.0.0 ∷ [] else []) in
    subst (HeaderRead bytes) z.2
    (record {
      spells =
          spells_as bytes (row ++ tail) (magic ++ count_bytes (counts_row row z.0.0)) z.0.1 (ap (λ t. t ++ tail) (row_is bytes row y.0.1 p begins))
          (spells_then bytes row y.0.1 tail z.0.1 p.spells ninth.spells);
      version = version_is_known bytes row y.0.1 p (kept_where WRONG_HEADER 4 (agrees magic bytes) (has_version bytes) h.1 begins);
      none = ninth.none;
    })

-- the version and the ninth count are those of the attachments
abbrev IsSpelled : ℕ → ℕ → List Attachment → Type 0
IsSpelled v m attachments = (v ≡ version_of attachments) × ((if nat_eq v 2 then m ∷ [] else []) ≡ attached_count attachments)

first_version : (m : ℕ) (attachments : List Attachment) → length attachments ≡ m → m ≡ 0 → IsSpelled 1 m attachments
first_version m [] long none = (refl, refl)
first_version m (a ∷ more) long none = absurd (omega (arith, long, none))

second_version : (m : ℕ) (attachments : List Attachment) → length attachments ≡ m → 1 ≤ length attachments → IsSpelled 2 m attachments
second_version m [] long some = absurd (omega (arith, some))
second_version m (a ∷ more) long some = (refl, ap (λ n. n ∷ []) (sym long))

spelled_by : (v m : ℕ) (attachments : List Attachment) → (v ≡ 1) ⊎ (v ≡ 2) → length attachments ≡ m → (nat_eq v 2 ≡ false → m ≡ 0)
    → (nat_eq v 2 ≡ true → 1 ≤ length attachments) → IsSpelled v m attachments
spelled_by v m attachments known long none some =
    ⊎_elim
    (λ is. rw is (first_version m attachments long (none (ap (λ n. nat_eq n 2) is))))
    (λ is. rw is (second_version m attachments long (some (ap (λ n. nat_eq n 2) is))))
    known

some_attached : (r : Raw) → Clear r → nat_eq r.version 2 ≡ true → 1 ≤ length r.attachments
some_attached r c e =
    let n = length r.attachments in
    leb-true 1 n (and_parts (nat_le 1 n) _ (kept_where TABLES_DISAGREE 22 (nat_eq r.version 2) (is_within 1 n CHANNELS) c.attached_count e)).0

regrouped : (h n d t k : List ℕ) → h ++ (n ++ d ++ t ++ k) ≡ h ++ n ++ d ++ t ++ k
regrouped h n d t k =
    sym (append_assoc h (n ++ d ++ t) k)
    ∙ ap (λ v. v ++ k) (sym (append_assoc h (n ++ d) t) ∙ ap (λ v. v ++ t) (sym (append_assoc h n d)))

pub spelled : (bytes : List ℕ) (r : Raw) → IsBytes bytes → header_faults bytes ≡ [] → read_image bytes ≡ Some (r, []) → sections_faults r ≡ [] → bytes_of (sections_of r) ≡ bytes
unfolding read_image header_bytes name_bytes data_bytes table_bytes code_bytes
spelled bytes r fits header e none =
    let i = sections_of r in
    let c = clear r none in
    let y = bound (read_counts bytes) read_raw (r, []) e in
    let n = y.0.0 in
    let h = header_read bytes y.0 fits header y.1 in
    let w = raw_read n y.0.1 (r, []) h.spells.fits y.2 in
    let v =
    spelled_by n.version n.attachments r.attachments h.version w.attachments_many h.none
    (λ two. some_attached r c (ap (λ m. nat_eq m 2) w.version_is ∙ two)) in
    let raw : bytes ≡ (magic ++ count_bytes n) ++ raw_bytes r =
    h.spells.parts ∙ ap (λ t. (magic ++ count_bytes n) ++ t) (w.spells.parts ∙ append-nil (raw_bytes r)) in
    let head : magic ++ count_bytes n ≡ header_bytes i =
    (λ j. 65 ∷ 82 ∷ 86 ∷ 78
    ∷ flat_map half (v.0 j
    ∷ (sym (length_map instruction_of r.instructions ∙ w.instructions_many)) j
    ∷ (sym (length_map subprogram_from r.subprograms ∙ w.subprograms_many)) j
    ∷ (sym (length_map object_from r.objects ∙ w.objects_many)) j
    ∷ (sym (length_map task_from r.tasks ∙ w.tasks_many)) j
    ∷ (sym (length_map text_from r.exceptions ∙ w.exceptions_many)) j
    ∷ (sym w.rows_many) j
    ∷ (sym (length_map text_from r.labels ∙ w.labels_many)) j
    ∷ (sym w.plain_words_many) j
    ∷ [])
    ++ flat_map half (v.1 j)) in
    let code : raw_bytes r ≡ name_bytes i ++ data_bytes i ++ table_bytes i ++ code_bytes i =
    (λ j. (exceptions_same r c j ++ labels_same r c j)
    ++ (flat_map word r.plain_words ++ objects_same r c j)
    ++ (subprograms_same r c j ++ tasks_same r c j ++ flat_map row_bytes r.rows ++ flat_map attachment_bytes r.attachments)
    ++ instructions_same r c j) in
    sym (raw ∙ (ap (λ t. t ++ raw_bytes r) head ∙ (ap (λ t. header_bytes i ++ t) code ∙ regrouped (header_bytes i) (name_bytes i) (data_bytes i) (table_bytes i) (code_bytes i))))
