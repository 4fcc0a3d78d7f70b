-- What is read at the front of a text stands there.
use Rattle.std.proofs.Common.{◌≡◌, ℕ, ◌+◌, ◌≤◌, ◌<◌, Bool, true, false, cond, not, ◌&&◌, ◌⊎◌, List, [], ◌∷◌, ◌++◌, length, take, drop, Option, Some, None, Ok, Err, refl, sym, ap, ◌∙◌, subst, inl, inr, arith, take-append-drop}
use Rattle.std.specs.Prelude.{pos, nat_le, nat_lt}
use Rattle.std.specs.List.{list_all, prefix_len}
use Rattle.std.specs.Char.{is_ascii_alphabetic, is_ascii_digit}
use Rattle.std.proofs.Math.Seq.{drop-append_seam}
use Rattle.std.proofs.lemmas.List.Folds.{length-prefix_len}
use Rattle.std.proofs.lemmas.Bool.{ltb-true, ltb-false, leb-true, leb-false, and_cases}
use Rattle.std.proofs.lemmas.Bool.Decides.{Decides-eqb}
use Rattle.lexer.specs.declared.token.TokenKind.{TokenKind}
use Rattle.lexer.specs.declared.token.TokenKind.TheVariants as kinds
use Rattle.lexer.specs.declared.word.Word.{Word}
use Rattle.lexer.specs.declared.delimiter.Delimiter.{Delimiter}
use Rattle.lexer.specs.declared.element.Compound.{Compound}
use Rattle.lexer.specs.declared.element.Compound.TheVariants as compounds
use Rattle.lexer.specs.declared.element.Element.{Element}
use Rattle.base.specs.declared.limits.TheConstants.{NAME_LIMIT, LABEL_LIMIT}
use Rattle.lexer.specs.Limits.{number_limit}
use Rattle.lexer.specs.Characters.{quotation_mark, hyphen, is_quotation_mark, is_hyphen, is_white, is_word_character, is_numeral_character, runs_on, is_comment_character, stays_on_line, is_string_character, is_label_character, begins}
use Rattle.lexer.specs.Delimiters.{delimiter_text}
use Rattle.lexer.specs.Elements.{is_word, has_single_underlines, value, upper_case, quoted, comment, IsLongest, IsName, IsToken}
use Rattle.lexer.specs.Spelling.{Row, Here, White, Comment, Lexeme, Breaks, Stray, LeftOut, InComment, Identifier, Literal, Open, Label}
use Rattle.lexer.specs.Reading.{Reading, reserved, kind_or, word_at, value_in_range, number_or, numeral_at, label_at, comment_at, compound_of, simple_of, compound_at, simple_or, compound_or, delimiter_at, element_at, tokens_of}
use Rattle.lexer.proofs.CharacterTests.{letter_in_word, digit_in_numeral, comment_on_line}
use Rattle.lexer.proofs.Fronts.{and_left, and_right, both, front_passes, rest_stops, weaker}
use Rattle.lexer.proofs.Words.{reserved-is, none-reserved}
use Rattle.lexer.proofs.Shapes.{Mark, class_of, mark_class}
use Rattle.lexer.proofs.DelimiterTexts.{simple_text, CompoundText, compound_text}
use Rattle.lexer.proofs.Longest.{quoted_length, quoted_rest, stray, begins_front, positive_front, word_longest, numeral_longest, string_longest, comment_longest, simple_longest, compound_longest}

-- an element of some length stands at the front of the text
pub record IsThere (at : ℕ) (text : List ℕ) (e : Element) : Type 0 where
  pub some : 0 < e.length
  pub row : Row (at + e.length) (drop e.length text) at text (tokens_of at e)

-- what was read is there, or what was broken is
abbrev pub IsRight : ℕ → List ℕ → Reading → Type 0
IsRight at text (Ok e) = IsThere at text e
IsRight at text (Err b) = Breaks b.number b.offset text

-- one and the other outcome of a test
decide : {A : Type 0} (P : A → Type 0) (b : Bool) (x y : A) → (b ≡ true → P x) → (b ≡ false → P y) → P (cond b x y)
decide P true x y whether otherwise = whether refl
decide P false x y whether otherwise = otherwise refl

not_true : (a : Bool) → not a ≡ true → a ≡ false
not_true true e = sym e
not_true false e = refl

not_false : (a : Bool) → not a ≡ false → a ≡ true
not_false true e = refl
not_false false e = sym e

-- a token of these characters
one_token : (at n : ℕ) (text element rest : List ℕ) (kind : TokenKind) → text ≡ element ++ rest → length element ≡ n → IsLongest element rest → IsToken kind element rest → 0 < n → IsThere at text (record { kind = Some kind; length = n })
one_token at n text element rest kind parts size longest is some =
    subst (λ m. IsThere at text (record { kind = Some kind; length = m })) size
    (record {
      some = omega arith;
      row = subst (λ s. Row (at + length element) s at text (record { kind = kind; start = at; end_ = at + length element } ∷ [])) (sym (ap (drop (length element)) parts ∙ drop-append_seam element rest)) (Lexeme element kind parts longest is Here);
    })

name_kind : (element rest name : List ℕ) (o : Option Word) → reserved name ≡ o → name ≡ upper_case element → IsName element → IsToken (kind_or name o) element rest
name_kind element rest name None found is named = (named, is, none-reserved name found)
name_kind element rest name (Some word) found is named = (named, reserved-is name word found ∙ is)

word_right : (at : ℕ) (text : List ℕ) → begins is_ascii_alphabetic text ≡ true → IsRight at text (word_at text)
unfolding word_at
word_right at text letter =
    let n = prefix_len is_word_character text in
    let longest : IsLongest (take n text) (drop n text) = word_longest text letter in
    let size : length (take n text) ≡ n = length-prefix_len is_word_character text in
    let shape : is_word (take n text) ≡ true = both (begins is_ascii_alphabetic (take n text)) (list_all is_word_character (take n text)) (letter_front text letter) (front_passes is_word_character text) in
    decide (IsRight at text) (has_single_underlines (take n text) && nat_le n NAME_LIMIT) _ _
    (λ e. one_token at n text (take n text) (drop n text) (kind_or (upper_case (take n text)) (reserved (upper_case (take n text)))) (sym (take-append-drop n text)) size longest
    (name_kind (take n text) (drop n text) (upper_case (take n text)) (reserved (upper_case (take n text))) refl refl (record {
      shape = shape;
      underlines = and_left (has_single_underlines (take n text)) (nat_le n NAME_LIMIT) e;
      short = omega (arith, size, leb-true n NAME_LIMIT (and_right (has_single_underlines (take n text)) (nat_le n NAME_LIMIT) e));
    }))
    (positive_front is_word_character is_ascii_alphabetic text letter_in_word letter))
    (λ e. subst (λ s. Breaks 3 0 s) (take-append-drop n text) (Identifier (take n text) (drop n text) longest shape (wrong (and_cases (has_single_underlines (take n text)) (nat_le n NAME_LIMIT) e))))
  where
    letter_front : (s : List ℕ) → begins is_ascii_alphabetic s ≡ true → begins is_ascii_alphabetic (take (prefix_len is_word_character s) s) ≡ true
    letter_front s e = begins_front is_word_character is_ascii_alphabetic s letter_in_word e

    wrong : (has_single_underlines (take (prefix_len is_word_character text) text) ≡ false) ⊎ (nat_le (prefix_len is_word_character text) NAME_LIMIT ≡ false) → (has_single_underlines (take (prefix_len is_word_character text) text) ≡ false) ⊎ (NAME_LIMIT < length (take (prefix_len is_word_character text) text))
    wrong (inl e) = inl e
    wrong (inr e) = inr (omega (arith, length-prefix_len is_word_character text, leb-false (prefix_len is_word_character text) NAME_LIMIT e))

numeral_front : (s : List ℕ) → begins is_ascii_digit s ≡ true → begins is_ascii_digit (take (prefix_len is_numeral_character s) s) ≡ true
numeral_front s e = begins_front is_numeral_character is_ascii_digit s digit_in_numeral e

-- the fault of a numeral
literal : (text : List ℕ) → begins is_ascii_digit text ≡ true
    → (has_single_underlines (take (prefix_len is_numeral_character text) text) ≡ false) ⊎ (number_limit ≤ value (take (prefix_len is_numeral_character text) text)) ⊎ (begins runs_on (drop (prefix_len is_numeral_character text) text) ≡ true)
    → Breaks 4 0 text
literal text digit wrong =
    let n = prefix_len is_numeral_character text in
    subst (λ s. Breaks 4 0 s) (take-append-drop n text)
    (Literal (take n text) (drop n text) (numeral_longest text digit) (both (begins is_ascii_digit (take n text)) (list_all is_numeral_character (take n text)) (numeral_front text digit) (front_passes is_numeral_character text)) wrong)

numeral_right : (at : ℕ) (text : List ℕ) → begins is_ascii_digit text ≡ true → IsRight at text (numeral_at text)
unfolding numeral_at value_in_range
numeral_right at text digit =
    let n = prefix_len is_numeral_character text in
    let element = take n text in
    let rest = drop n text in
    decide (IsRight at text) (has_single_underlines element && not (begins runs_on rest)) _ _
    (λ e. decide (λ o. IsRight at text (number_or n o)) (nat_lt (value element) number_limit) _ _
    (λ small. one_token at n text element rest (kinds.Number (pos (value element))) (sym (take-append-drop n text)) (length-prefix_len is_numeral_character text) (numeral_longest text digit) (
      record {
        shape = both (begins is_ascii_digit element) (list_all is_numeral_character element) (numeral_front text digit) (front_passes is_numeral_character text);
        underlines = and_left (has_single_underlines element) (not (begins runs_on rest)) e;
        in_range = ltb-true (value element) number_limit small;
        apart = not_true (begins runs_on rest) (and_right (has_single_underlines element) (not (begins runs_on rest)) e);
      },
      refl,
    )
    (positive_front is_numeral_character is_ascii_digit text digit_in_numeral digit))
    (λ large. literal text digit (inr (inl (ltb-false (value element) number_limit large)))))
    (λ e. literal text digit (wrong (and_cases (has_single_underlines element) (not (begins runs_on rest)) e)))
  where
    wrong : (has_single_underlines (take (prefix_len is_numeral_character text) text) ≡ false) ⊎ (not (begins runs_on (drop (prefix_len is_numeral_character text) text)) ≡ false)
        → (has_single_underlines (take (prefix_len is_numeral_character text) text) ≡ false) ⊎ (number_limit ≤ value (take (prefix_len is_numeral_character text) text)) ⊎ (begins runs_on (drop (prefix_len is_numeral_character text) text) ≡ true)
    wrong (inl e) = inl e
    wrong (inr e) = inr (inr (not_false (begins runs_on (drop (prefix_len is_numeral_character text) text)) e))

-- what begins with a quotation mark, is that with the text behind it
quotation_front : (rest : List ℕ) → begins is_quotation_mark rest ≡ true → (others : List ℕ) × (rest ≡ quotation_mark ∷ others)
quotation_front [] e = cc
quotation_front (c ∷ rest) e = (rest, ap (λ a. a ∷ rest) ((Decides-eqb c quotation_mark).0 e))

label_length : (n : ℕ) (inner : List ℕ) → length inner ≡ n → length (quoted inner) ≡ n + 2
label_length n inner size = quoted_length inner ∙ ap (λ m. m + 2) size

closed : (inner rest others text : List ℕ) → text ≡ inner ++ rest → rest ≡ quotation_mark ∷ others → quotation_mark ∷ text ≡ quoted inner ++ others
closed inner rest others text parts mark = ap (λ s. quotation_mark ∷ s) (parts ∙ ap (λ s. inner ++ s) mark) ∙ sym (quoted_rest inner others)

-- a string literal ends at a quotation mark, at the line's end or at the text's end
string_stop : (rest : List ℕ) → begins is_string_character rest ≡ false → begins is_quotation_mark rest ≡ false → begins stays_on_line rest ≡ false
string_stop [] stop unclosed = refl
string_stop (c ∷ rest) stop unclosed = go (is_quotation_mark c) (stays_on_line c) unclosed stop
  where
    go : (a b : Bool) → a ≡ false → (not a && b) ≡ false → b ≡ false
    go true b e f = cc
    go false b e f = f

label_wrong : (b c d : Bool) (m : ℕ) (inner : List ℕ) → list_all is_label_character inner ≡ b → length inner ≡ m → (b && nat_lt 0 m && nat_le m LABEL_LIMIT) ≡ false
    → (list_all is_label_character inner ≡ false) ⊎ (length inner ≡ 0) ⊎ (LABEL_LIMIT < length inner)
label_wrong b c d m inner all size e = go (and_cases (b && nat_lt 0 m) (nat_le m LABEL_LIMIT) e)
  where
    two : (b ≡ false) ⊎ (nat_lt 0 m ≡ false) → (list_all is_label_character inner ≡ false) ⊎ (length inner ≡ 0) ⊎ (LABEL_LIMIT < length inner)
    two (inl f) = inl (all ∙ f)
    two (inr f) = inr (inl (omega (arith, size, ltb-false 0 m f)))

    go : ((b && nat_lt 0 m) ≡ false) ⊎ (nat_le m LABEL_LIMIT ≡ false) → (list_all is_label_character inner ≡ false) ⊎ (length inner ≡ 0) ⊎ (LABEL_LIMIT < length inner)
    go (inl f) = two (and_cases b (nat_lt 0 m) f)
    go (inr f) = inr (inr (omega (arith, size, leb-false m LABEL_LIMIT f)))

label_right : (at : ℕ) (text : List ℕ) → IsRight at (quotation_mark ∷ text) (label_at text)
unfolding label_at
label_right at text =
    let n = prefix_len is_string_character text in
    let inner = take n text in
    let rest = drop n text in
    let size : length inner ≡ n = length-prefix_len is_string_character text in
    let strings : list_all is_string_character inner ≡ true = front_passes is_string_character text in
    let parts : text ≡ inner ++ rest = sym (take-append-drop n text) in
    decide (IsRight at (quotation_mark ∷ text)) (((begins is_quotation_mark rest && list_all is_label_character inner) && nat_lt 0 n) && nat_le n LABEL_LIMIT) _ _
    (λ e.
    let three = and_left ((begins is_quotation_mark rest && list_all is_label_character inner) && nat_lt 0 n) (nat_le n LABEL_LIMIT) e in
    let two = and_left (begins is_quotation_mark rest && list_all is_label_character inner) (nat_lt 0 n) three in
    let after = quotation_front rest (and_left (begins is_quotation_mark rest) (list_all is_label_character inner) two) in
    one_token at (n + 2) (quotation_mark ∷ text) (quoted inner) after.0 (kinds.Label inner) (closed inner rest after.0 text parts after.1) (label_length n inner size) (string_longest inner after.0 strings) (
      record {
        characters = and_right (begins is_quotation_mark rest) (list_all is_label_character inner) two;
        some = omega (arith, size, ltb-true 0 n (and_right (begins is_quotation_mark rest && list_all is_label_character inner) (nat_lt 0 n) three));
        short = omega (arith, size, leb-true n LABEL_LIMIT (and_right ((begins is_quotation_mark rest && list_all is_label_character inner) && nat_lt 0 n) (nat_le n LABEL_LIMIT) e));
      },
      refl,
    )
    (omega arith))
    (λ e. go (begins is_quotation_mark rest) refl e)
  where
    go : (b : Bool) → begins is_quotation_mark (drop (prefix_len is_string_character text) text) ≡ b
        → (((begins is_quotation_mark (drop (prefix_len is_string_character text) text) && list_all is_label_character (take (prefix_len is_string_character text) text)) && nat_lt 0 (prefix_len is_string_character text)) && nat_le (prefix_len is_string_character text) LABEL_LIMIT) ≡ false
        → Breaks 5 0 (quotation_mark ∷ text)
    go true mark e =
        let n = prefix_len is_string_character text in
        let after = quotation_front (drop n text) mark in
        let e' : ((list_all is_label_character (take n text) && nat_lt 0 n) && nat_le n LABEL_LIMIT) ≡ false = subst (λ b. (((b && list_all is_label_character (take n text)) && nat_lt 0 n) && nat_le n LABEL_LIMIT) ≡ false) mark e in
        subst (λ s. Breaks 5 0 s) (sym (closed (take n text) (drop n text) after.0 text (sym (take-append-drop n text)) after.1))
        (Label (take n text) after.0 (front_passes is_string_character text) (label_wrong (list_all is_label_character (take n text)) true true n (take n text) refl (length-prefix_len is_string_character text) e'))
    go false unclosed e =
        let n = prefix_len is_string_character text in
        subst (λ s. Breaks 5 0 (quotation_mark ∷ s)) (take-append-drop n text) (Open (take n text) (drop n text) (front_passes is_string_character text) (string_stop (drop n text) (rest_stops is_string_character text) unclosed))

-- what no comment may hold, behind a comment's characters
in_comment : (n : ℕ) (inner rest : List ℕ) → list_all is_comment_character inner ≡ true → length inner ≡ n → begins is_comment_character rest ≡ false → begins stays_on_line rest ≡ true → Breaks 2 (n + 2) (hyphen ∷ hyphen ∷ (inner ++ rest))
in_comment n inner [] all size stop online = cc
in_comment n inner (c ∷ rest) all size stop online =
    let same : length (comment inner) ≡ n + 2 = omega (arith, size) in
    subst (λ m. Breaks 2 m (hyphen ∷ hyphen ∷ (inner ++ (c ∷ rest)))) same (InComment inner c rest all stop online)

-- a comment of these characters
one_comment : (at n : ℕ) (inner rest : List ℕ) → list_all is_comment_character inner ≡ true → length inner ≡ n → begins stays_on_line rest ≡ false → IsThere at (hyphen ∷ hyphen ∷ (inner ++ rest)) (record { kind = None; length = n + 2 })
one_comment at n inner rest all size stop =
    let same : length (comment inner) ≡ n + 2 = omega (arith, size) in
    subst (λ m. IsThere at (hyphen ∷ hyphen ∷ (inner ++ rest)) (record { kind = None; length = m })) same
    (record {
      some = omega arith;
      row = subst (λ s. Row (at + length (comment inner)) s at (hyphen ∷ hyphen ∷ (inner ++ rest)) []) (sym (drop-append_seam (comment inner) rest))
          (Comment inner refl (comment_longest inner rest (weaker is_comment_character stays_on_line comment_on_line inner all) stop) all Here);
    })

comment_right : (at : ℕ) (text : List ℕ) → IsRight at (hyphen ∷ hyphen ∷ text) (comment_at text)
unfolding comment_at
comment_right at text =
    let n = prefix_len is_comment_character text in
    let parts : take n text ++ drop n text ≡ text = take-append-drop n text in
    decide (IsRight at (hyphen ∷ hyphen ∷ text)) (begins stays_on_line (drop n text)) _ _
    (λ e. subst (λ s. Breaks 2 (n + 2) (hyphen ∷ hyphen ∷ s)) parts (in_comment n (take n text) (drop n text) (front_passes is_comment_character text) (length-prefix_len is_comment_character text) (rest_stops is_comment_character text) e))
    (λ e. subst (λ s. IsThere at (hyphen ∷ hyphen ∷ s) (record { kind = None; length = n + 2 })) parts (one_comment at n (take n text) (drop n text) (front_passes is_comment_character text) (length-prefix_len is_comment_character text) e))

one_white : (at c : ℕ) (rest : List ℕ) → is_white c ≡ true → IsThere at (c ∷ rest) (record { kind = None; length = 1 })
one_white at c rest white = record { some = omega arith; row = White white Here }

delimiter_right : (at c : ℕ) (rest : List ℕ) → is_white c ≡ false → is_quotation_mark c ≡ false → class_of c ≡ Mark → (is_hyphen c && begins is_hyphen rest) ≡ false → IsRight at (c ∷ rest) (delimiter_at c rest)
unfolding delimiter_at
delimiter_right at c rest white quotation mark apart = go (compound_at c rest) refl
  where
    alone : compound_at c rest ≡ None → (o : Option Delimiter) → simple_of c ≡ o → IsRight at (c ∷ rest) (simple_or o)
    alone none None e = Stray c rest white (λ is. let differs : is_quotation_mark c ≡ true = ap is_quotation_mark is in cc) (λ element others parts is. stray c rest element others mark none apart e parts is)
    alone none (Some d) e =
        let text : delimiter_text d ≡ c ∷ [] = simple_text c d e in
        one_token at 1 (c ∷ rest) (c ∷ []) rest (kinds.Delimiter d) refl refl (simple_longest c d rest text mark none apart) (sym text) (omega arith)

    pair : (e : ℕ) (others : List ℕ) (x : Compound) → rest ≡ e ∷ others → compound_of c e ≡ Some x → CompoundText x c e → IsRight at (c ∷ rest) (compound_or c (Some x))
    pair e others (compounds.Delimiter d) is found text =
        one_token at 2 (c ∷ rest) (c ∷ e ∷ []) others (kinds.Delimiter d) (ap (λ s. c ∷ s) is) refl (compound_longest c e d (compounds.Delimiter d) others text mark found) (sym text) (omega arith)
    pair e others compounds.LeftOut is found text =
        subst (λ s. Breaks 2 0 s) (ap (λ s. s ++ others) text.1 ∙ sym (ap (λ s. c ∷ s) is)) (LeftOut text.0 others)

    behind : (s : List ℕ) (x : Compound) → rest ≡ s → compound_at c s ≡ Some x → IsRight at (c ∷ rest) (compound_or c (Some x))
    behind [] x is found = absurd (cc)
    behind (e ∷ others) x is found = pair e others x is found (compound_text c e x found)

    go : (o : Option Compound) → compound_at c rest ≡ o → IsRight at (c ∷ rest) (compound_or c o)
    go None found = alone found (simple_of c) refl
    go (Some x) found = behind rest x refl found

hyphens : (at c : ℕ) (rest : List ℕ) → (is_hyphen c && begins is_hyphen rest) ≡ true → IsRight at (c ∷ rest) (comment_at (drop 1 rest))
hyphens at c [] e = absurd (let two : false ≡ true = and_right (is_hyphen c) false e in cc)
hyphens at c (d ∷ rest) e =
    let first : c ≡ hyphen = (Decides-eqb c hyphen).0 (and_left (is_hyphen c) (is_hyphen d) e) in
    let second : d ≡ hyphen = (Decides-eqb d hyphen).0 (and_right (is_hyphen c) (is_hyphen d) e) in
    subst (λ a. IsRight at (a ∷ d ∷ rest) (comment_at rest)) (sym first) (subst (λ b. IsRight at (hyphen ∷ b ∷ rest) (comment_at rest)) (sym second) (comment_right at rest))

pub element_right : (at c : ℕ) (rest : List ℕ) → IsRight at (c ∷ rest) (element_at (c ∷ rest))
unfolding element_at
element_right at c rest =
    decide (IsRight at (c ∷ rest)) (is_white c) _ _ (λ white. one_white at c rest white)
    (λ white. decide (IsRight at (c ∷ rest)) (is_ascii_alphabetic c) _ _ (λ letter. word_right at (c ∷ rest) letter)
    (λ letter. decide (IsRight at (c ∷ rest)) (is_ascii_digit c) _ _ (λ digit. numeral_right at (c ∷ rest) digit)
    (λ digit. decide (IsRight at (c ∷ rest)) (is_quotation_mark c) _ _ (λ quotation. subst (λ a. IsRight at (a ∷ rest) (label_at rest)) (sym ((Decides-eqb c quotation_mark).0 quotation)) (label_right at rest))
    (λ quotation. decide (IsRight at (c ∷ rest)) (is_hyphen c && begins is_hyphen rest) _ _ (λ comment. hyphens at c rest comment)
    (λ apart. delimiter_right at c rest white quotation (mark_class c letter digit quotation) apart)))))
