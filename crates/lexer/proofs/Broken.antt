-- A rule that is broken at the front of a text is found.
use Rattle.std.proofs.Common.{◌≡◌, ℕ, ◌+◌, ◌≤◌, ◌<◌, Bool, true, false, cond, not, ◌&&◌, ◌⊎◌, List, [], ◌∷◌, ◌++◌, length, Option, Some, None, Ok, Err, refl, sym, ap, ◌∙◌, inl, inr, arith}
use Rattle.std.specs.Prelude.{nat_le, nat_lt}
use Rattle.std.specs.List.{list_all}
use Rattle.std.specs.Char.{is_ascii_alphabetic, is_ascii_digit}
use Rattle.std.proofs.lemmas.Bool.{le-ltb, lt-leb}
use Rattle.std.proofs.lemmas.Bool.Decides.{Decides-eqb}
use Rattle.lexer.specs.declared.delimiter.Delimiter.{Delimiter}
use Rattle.lexer.specs.declared.element.Compound.{Compound}
use Rattle.base.specs.declared.limits.TheConstants.{NAME_LIMIT, LABEL_LIMIT}
use Rattle.lexer.specs.Limits.{number_limit}
use Rattle.lexer.specs.Characters.{quotation_mark, hyphen, is_quotation_mark, is_hyphen, is_white, is_word_character, is_numeral_character, runs_on, is_comment_character, stays_on_line, is_string_character, is_label_character, begins}
use Rattle.lexer.specs.Delimiters.{Excluded, DoubleStar, LeftLabelBracket, RightLabelBracket, Box, excluded_text}
use Rattle.lexer.specs.Elements.{is_word, is_numeral, has_single_underlines, value, quoted, comment, IsElement, WordElement, NumeralElement, CommentElement, DelimiterElement, IsLongest}
use Rattle.lexer.specs.Spelling.{Breaks, Stray, LeftOut, InComment, Identifier, Literal, Open, Label}
use Rattle.lexer.specs.Reading.{Reading, broken, number_or, compound_of, simple_of, compound_at, simple_or, compound_or, delimiter_at, element_at}
use Rattle.lexer.proofs.CharacterTests.{letter_in_word, digit_in_numeral, line_is_no_mark}
use Rattle.lexer.proofs.Fronts.{and_left, and_right, both}
use Rattle.lexer.proofs.DelimiterTexts.{simple_text, compound_text}
use Rattle.lexer.proofs.Longest.{quoted_rest}
use Rattle.lexer.proofs.Complete.{skip, begins_with, at_letter, at_digit, at_quotation, at_hyphens, word_computes, numeral_computes, label_computes, comment_computes, pair_element}

and_is_false : (a b : Bool) → (a ≡ false) ⊎ (b ≡ false) → (a && b) ≡ false
and_is_false true b (inl e) = cc
and_is_false true b (inr e) = e
and_is_false false b e = refl

word_broken : (element rest : List ℕ) → IsLongest element rest → is_word element ≡ true → (has_single_underlines element ≡ false) ⊎ (NAME_LIMIT < length element) → element_at (element ++ rest) ≡ broken 3
word_broken element rest longest shape wrong =
    at_letter (element ++ rest) (begins_with is_ascii_alphabetic element rest (and_left (begins is_ascii_alphabetic element) (list_all is_word_character element) shape))
    ∙ (word_computes element rest longest shape
    ∙ skip (has_single_underlines element && nat_le (length element) NAME_LIMIT) _ _ (and_is_false (has_single_underlines element) (nat_le (length element) NAME_LIMIT) (reason wrong)))
  where
    reason : (has_single_underlines element ≡ false) ⊎ (NAME_LIMIT < length element) → (has_single_underlines element ≡ false) ⊎ (nat_le (length element) NAME_LIMIT ≡ false)
    reason (inl e) = inl e
    reason (inr h) = inr (lt-leb (length element) NAME_LIMIT h)

either_way : (b : Bool) (r : Reading) → cond b r r ≡ r
either_way true r = refl
either_way false r = refl

numeral_broken : (element rest : List ℕ) → IsLongest element rest → is_numeral element ≡ true → (has_single_underlines element ≡ false) ⊎ (number_limit ≤ value element) ⊎ (begins runs_on rest ≡ true) → element_at (element ++ rest) ≡ broken 4
numeral_broken element rest longest shape wrong =
    at_digit (element ++ rest) (begins_with is_ascii_digit element rest (and_left (begins is_ascii_digit element) (list_all is_numeral_character element) shape))
    ∙ (numeral_computes element rest longest shape ∙ reason wrong)
  where
    reason : (has_single_underlines element ≡ false) ⊎ (number_limit ≤ value element) ⊎ (begins runs_on rest ≡ true)
        → cond (has_single_underlines element && not (begins runs_on rest)) (number_or (length element) (cond (nat_lt (value element) number_limit) (Some (value element)) None)) (broken 4) ≡ broken 4
    reason (inl e) = skip (has_single_underlines element && not (begins runs_on rest)) _ _ (and_is_false (has_single_underlines element) (not (begins runs_on rest)) (inl e))
    reason (inr (inl large)) =
        ap (λ b. cond (has_single_underlines element && not (begins runs_on rest)) (number_or (length element) (cond b (Some (value element)) None)) (broken 4)) (le-ltb (value element) number_limit large)
        ∙ either_way (has_single_underlines element && not (begins runs_on rest)) (broken 4)
    reason (inr (inr e)) = skip (has_single_underlines element && not (begins runs_on rest)) _ _ (and_is_false (has_single_underlines element) (not (begins runs_on rest)) (inr (ap not e)))

-- a line feed and the text's end are in no string literal
line_ends_string : (rest : List ℕ) → begins stays_on_line rest ≡ false → begins is_string_character rest ≡ false
line_ends_string [] e = refl
line_ends_string (c ∷ rest) e = and_is_false (not (is_quotation_mark c)) (stays_on_line c) (inr e)

unclosed : (rest : List ℕ) → begins stays_on_line rest ≡ false → begins is_quotation_mark rest ≡ false
unclosed [] e = refl
unclosed (c ∷ rest) e = line_is_no_mark c e

label_unclosed : (inner rest : List ℕ) → list_all is_string_character inner ≡ true → begins stays_on_line rest ≡ false → element_at (quotation_mark ∷ (inner ++ rest)) ≡ broken 5
label_unclosed inner rest all stop =
    at_quotation (inner ++ rest) ∙ (label_computes inner rest all (line_ends_string rest stop)
    ∙ skip (((begins is_quotation_mark rest && list_all is_label_character inner) && nat_lt 0 (length inner)) && nat_le (length inner) LABEL_LIMIT) _ _
    (and_is_false ((begins is_quotation_mark rest && list_all is_label_character inner) && nat_lt 0 (length inner)) (nat_le (length inner) LABEL_LIMIT)
    (inl (and_is_false (begins is_quotation_mark rest && list_all is_label_character inner) (nat_lt 0 (length inner))
    (inl (and_is_false (begins is_quotation_mark rest) (list_all is_label_character inner) (inl (unclosed rest stop))))))))

label_wrong : (inner rest : List ℕ) → list_all is_string_character inner ≡ true → (list_all is_label_character inner ≡ false) ⊎ (length inner ≡ 0) ⊎ (LABEL_LIMIT < length inner) → element_at (quoted inner ++ rest) ≡ broken 5
label_wrong inner rest all wrong =
    ap element_at (quoted_rest inner rest) ∙ (at_quotation (inner ++ quotation_mark ∷ rest) ∙ (label_computes inner (quotation_mark ∷ rest) all refl
    ∙ skip (((begins is_quotation_mark (quotation_mark ∷ rest) && list_all is_label_character inner) && nat_lt 0 (length inner)) && nat_le (length inner) LABEL_LIMIT) _ _ (reason wrong)))
  where
    reason : (list_all is_label_character inner ≡ false) ⊎ (length inner ≡ 0) ⊎ (LABEL_LIMIT < length inner) → ((list_all is_label_character inner && nat_lt 0 (length inner)) && nat_le (length inner) LABEL_LIMIT) ≡ false
    reason (inl e) = and_is_false (list_all is_label_character inner && nat_lt 0 (length inner)) (nat_le (length inner) LABEL_LIMIT) (inl (and_is_false (list_all is_label_character inner) (nat_lt 0 (length inner)) (inl e)))
    reason (inr (inl e)) = and_is_false (list_all is_label_character inner && nat_lt 0 (length inner)) (nat_le (length inner) LABEL_LIMIT) (inl (and_is_false (list_all is_label_character inner) (nat_lt 0 (length inner)) (inr (ap (nat_lt 0) e))))
    reason (inr (inr h)) = and_is_false (list_all is_label_character inner && nat_lt 0 (length inner)) (nat_le (length inner) LABEL_LIMIT) (inr (lt-leb (length inner) LABEL_LIMIT h))

comment_broken : (inner : List ℕ) (c : ℕ) (rest : List ℕ) → list_all is_comment_character inner ≡ true → is_comment_character c ≡ false → stays_on_line c ≡ true
    → element_at (comment inner ++ (c ∷ rest)) ≡ Err (record { number = 2; offset = length (comment inner) })
comment_broken inner c rest all wrong online =
    let size : length inner + 2 ≡ length (comment inner) = omega arith in
    at_hyphens (inner ++ c ∷ rest) ∙ (comment_computes inner (c ∷ rest) all wrong
    ∙ (ap (λ b. cond b (Err (record { number = 2; offset = length inner + 2 })) (Ok (record { kind = None; length = length inner + 2 }))) online
    ∙ ap (λ n. Err (record { number = 2; offset = n })) size))

-- where nothing begins
module _ (c : ℕ) (rest : List ℕ) (none : (element others : List ℕ) → c ∷ rest ≡ element ++ others → IsElement element → ⊥) where
  no_letter : (b : Bool) → is_ascii_alphabetic c ≡ b → is_ascii_alphabetic c ≡ false
  no_letter false e = e
  no_letter true e = absurd (none (c ∷ []) rest refl (WordElement (both (is_ascii_alphabetic c) (is_word_character c && true) e (both (is_word_character c) true (letter_in_word c e) refl))))

  no_digit : (b : Bool) → is_ascii_digit c ≡ b → is_ascii_digit c ≡ false
  no_digit false e = e
  no_digit true e = absurd (none (c ∷ []) rest refl (NumeralElement (both (is_ascii_digit c) (is_numeral_character c && true) e (both (is_numeral_character c) true (digit_in_numeral c e) refl))))

  no_simple : (o : Option Delimiter) → simple_of c ≡ o → simple_of c ≡ None
  no_simple None e = e
  no_simple (Some d) e = absurd (none (c ∷ []) rest refl (DelimiterElement d (sym (simple_text c d e))))

pair_none : (c : ℕ) (rest : List ℕ) (none : (element others : List ℕ) → c ∷ rest ≡ element ++ others → IsElement element → ⊥) → compound_at c rest ≡ None
pair_none c [] none = refl
pair_none c (d ∷ rest) none = go (compound_of c d) refl
  where
    go : (o : Option Compound) → compound_of c d ≡ o → compound_of c d ≡ None
    go None e = e
    go (Some x) e = absurd (none (c ∷ d ∷ []) rest refl (pair_element c d x (compound_text c d x e)))

no_comment : (c : ℕ) (rest : List ℕ) (none : (element others : List ℕ) → c ∷ rest ≡ element ++ others → IsElement element → ⊥) → (is_hyphen c && begins is_hyphen rest) ≡ false
no_comment c [] none = and_is_false (is_hyphen c) false (inr refl)
no_comment c (d ∷ rest) none = go (is_hyphen c && is_hyphen d) refl
  where
    go : (b : Bool) → (is_hyphen c && is_hyphen d) ≡ b → (is_hyphen c && is_hyphen d) ≡ false
    go false e = e
    go true e =
        let first : c ≡ hyphen = (Decides-eqb c hyphen).0 (and_left (is_hyphen c) (is_hyphen d) e) in
        let second : d ≡ hyphen = (Decides-eqb d hyphen).0 (and_right (is_hyphen c) (is_hyphen d) e) in
        absurd (none (c ∷ d ∷ []) rest refl (CommentElement [] (cc) refl))

no_quotation : (c : ℕ) → (c ≡ quotation_mark → ⊥) → (b : Bool) → is_quotation_mark c ≡ b → is_quotation_mark c ≡ false
no_quotation c other false e = e
no_quotation c other true e = absurd (other ((Decides-eqb c quotation_mark).0 e))

nothing_begins : (c : ℕ) (rest : List ℕ) → is_white c ≡ false → (c ≡ quotation_mark → ⊥) → ((element others : List ℕ) → c ∷ rest ≡ element ++ others → IsElement element → ⊥) → element_at (c ∷ rest) ≡ broken 2
unfolding element_at delimiter_at
nothing_begins c rest white other none =
    skip (is_white c) _ _ white ∙ (skip (is_ascii_alphabetic c) _ _ (no_letter c rest none (is_ascii_alphabetic c) refl) ∙ (skip (is_ascii_digit c) _ _ (no_digit c rest none (is_ascii_digit c) refl)
    ∙ (skip (is_quotation_mark c) _ _ (no_quotation c other (is_quotation_mark c) refl) ∙ (skip (is_hyphen c && begins is_hyphen rest) _ _ (no_comment c rest none)
    ∙ (ap (compound_or c) (pair_none c rest none) ∙ ap simple_or (no_simple c rest none (simple_of c) refl))))))

left_out : (e : Excluded) (rest : List ℕ) → element_at (excluded_text e ++ rest) ≡ broken 2
unfolding element_at delimiter_at
left_out DoubleStar rest = refl
left_out LeftLabelBracket rest = refl
left_out RightLabelBracket rest = refl
left_out Box rest = refl

-- what breaks a rule at the front of a text is found there
pub breaks_read : {number offset : ℕ} {text : List ℕ} → Breaks number offset text → element_at text ≡ Err (record { number = number; offset = offset })
breaks_read (Stray c rest white other none) = nothing_begins c rest white other none
breaks_read (LeftOut e rest) = left_out e rest
breaks_read (InComment inner c rest all wrong online) = comment_broken inner c rest all wrong online
breaks_read (Identifier element rest longest shape wrong) = word_broken element rest longest shape wrong
breaks_read (Literal element rest longest shape wrong) = numeral_broken element rest longest shape wrong
breaks_read (Open inner rest all stop) = label_unclosed inner rest all stop
breaks_read (Label inner rest all wrong) = label_wrong inner rest all wrong
