-- A token, white space or a comment that stands at the front of a text is read.
use Rattle.std.proofs.Common.{◌≡◌, ℕ, ◌+◌, Bool, true, false, cond, not, ◌&&◌, List, [], ◌∷◌, ◌++◌, length, take, drop, Option, Some, None, Ok, Err, refl, sym, ap, ◌∙◌, subst, arith, append_assoc, length-append}
use Rattle.std.specs.Prelude.{pos, nat_le, nat_lt}
use Rattle.std.specs.List.{list_all, prefix_len}
use Rattle.std.specs.Char.{is_ascii_alphabetic, is_ascii_digit}
use Rattle.std.proofs.Math.Seq.{take-append_seam, drop-append_seam}
use Rattle.std.proofs.lemmas.List.Folds.{list_all-append}
use Rattle.std.proofs.lemmas.Bool.{lt-ltb, le-leb}
use Rattle.std.proofs.lemmas.Bool.Decides.{Decides-eqb}
use Rattle.lexer.specs.declared.token.TokenKind.{TokenKind}
use Rattle.lexer.specs.declared.token.TokenKind.TheVariants as kinds
use Rattle.lexer.specs.declared.delimiter.Delimiter.{Delimiter}
use Rattle.lexer.specs.declared.delimiter.Delimiter.TheVariants as delimiters
use Rattle.lexer.specs.declared.element.Compound.{Compound}
use Rattle.lexer.specs.declared.element.Compound.TheVariants as compounds
use Rattle.base.specs.declared.limits.TheConstants.{NAME_LIMIT, LABEL_LIMIT}
use Rattle.lexer.specs.Limits.{number_limit}
use Rattle.lexer.specs.Characters.{quotation_mark, hyphen, is_quotation_mark, is_hyphen, is_white, is_word_character, is_numeral_character, runs_on, is_comment_character, stays_on_line, is_string_character, is_label_character, begins}
use Rattle.lexer.specs.Delimiters.{delimiter_text}
use Rattle.lexer.specs.Elements.{is_word, is_numeral, has_single_underlines, value, upper_case, comment, IsElement, WordElement, NumeralElement, CommentElement, DelimiterElement, ExcludedElement, IsLongest, IsName, IsNumber, IsLabel, IsToken}
use Rattle.lexer.specs.Reading.{broken, reserved, kind_or, token, word_at, value_in_range, number_or, numeral_at, label_at, comment_at, compound_of, simple_of, compound_at, simple_or, compound_or, delimiter_at, element_at}
use Rattle.lexer.proofs.CharacterTests.{letter_not_white, digit_not_white, digit_no_letter, label_is_string, comment_on_line}
use Rattle.lexer.proofs.Fronts.{and_left, and_right, both, front_ends, weaker}
use Rattle.lexer.proofs.Words.{reserved-spelled, reserved-none}
use Rattle.lexer.proofs.DelimiterTexts.{CompoundText, compound_text}
use Rattle.lexer.proofs.Longest.{quoted_length, quoted_rest}

-- what comes behind a longest element doesn't go on with it
stops : (test : ℕ → Bool) (element rest : List ℕ) → IsLongest element rest → ((c : ℕ) → test c ≡ true → IsElement (element ++ c ∷ [])) → begins test rest ≡ false
stops test element [] longest goes_on = refl
stops test element (c ∷ rest) longest goes_on = go (test c) refl
  where
    go : (b : Bool) → test c ≡ b → test c ≡ false
    go false e = e
    go true e =
        let longer = longest.longest (element ++ c ∷ []) rest (sym (append_assoc element (c ∷ []) rest)) (goes_on c e) in
        absurd (omega (arith, length-append element (c ∷ []), longer))

all_with : (test : ℕ → Bool) (element : List ℕ) (c : ℕ) → list_all test element ≡ true → test c ≡ true → list_all test (element ++ c ∷ []) ≡ true
all_with test element c all more = list_all-append test element (c ∷ []) ∙ both (list_all test element) (test c && true) all (both (test c) true more refl)

pub begins_with : (test : ℕ → Bool) (element others : List ℕ) → begins test element ≡ true → begins test (element ++ others) ≡ true
begins_with test [] others e = cc
begins_with test (c ∷ element) others e = e

word_stops : (element rest : List ℕ) → IsLongest element rest → is_word element ≡ true → begins is_word_character rest ≡ false
word_stops element rest longest shape = stops is_word_character element rest longest
    (λ c more. WordElement (both (begins is_ascii_alphabetic (element ++ c ∷ [])) (list_all is_word_character (element ++ c ∷ []))
    (begins_with is_ascii_alphabetic element (c ∷ []) (and_left (begins is_ascii_alphabetic element) (list_all is_word_character element) shape))
    (all_with is_word_character element c (and_right (begins is_ascii_alphabetic element) (list_all is_word_character element) shape) more)))

numeral_stops : (element rest : List ℕ) → IsLongest element rest → is_numeral element ≡ true → begins is_numeral_character rest ≡ false
numeral_stops element rest longest shape = stops is_numeral_character element rest longest
    (λ c more. NumeralElement (both (begins is_ascii_digit (element ++ c ∷ [])) (list_all is_numeral_character (element ++ c ∷ []))
    (begins_with is_ascii_digit element (c ∷ []) (and_left (begins is_ascii_digit element) (list_all is_numeral_character element) shape))
    (all_with is_numeral_character element c (and_right (begins is_ascii_digit element) (list_all is_numeral_character element) shape) more)))

pub comment_stops : (inner rest : List ℕ) → IsLongest (comment inner) rest → list_all stays_on_line inner ≡ true → begins stays_on_line rest ≡ false
comment_stops inner rest longest all = stops stays_on_line (comment inner) rest longest (λ c more. CommentElement (inner ++ c ∷ []) refl (all_with stays_on_line inner c all more))

-- what a word's or a numeral's reader finds
front_is : (test : ℕ → Bool) (element rest : List ℕ) → list_all test element ≡ true → begins test rest ≡ false → (prefix_len test (element ++ rest) ≡ length element) × (take (prefix_len test (element ++ rest)) (element ++ rest) ≡ element) × (drop (prefix_len test (element ++ rest)) (element ++ rest) ≡ rest)
front_is test element rest all stop =
    let n = front_ends test element rest all stop in
    (n, ap (λ m. take m (element ++ rest)) n ∙ take-append_seam element rest, ap (λ m. drop m (element ++ rest)) n ∙ drop-append_seam element rest)

-- what the reader of words makes of a longest word
pub word_computes : (element rest : List ℕ) → IsLongest element rest → is_word element ≡ true → word_at (element ++ rest) ≡ cond (has_single_underlines element && nat_le (length element) NAME_LIMIT) (token (kind_or (upper_case element) (reserved (upper_case element))) (length element)) (broken 3)
unfolding word_at
word_computes element rest longest shape =
    let f = front_is is_word_character element rest (and_right (begins is_ascii_alphabetic element) (list_all is_word_character element) shape) (word_stops element rest longest shape) in
    rw (f.1, f.0) refl

word_read : (element rest : List ℕ) → IsLongest element rest → IsName element → word_at (element ++ rest) ≡ token (kind_or (upper_case element) (reserved (upper_case element))) (length element)
word_read element rest longest named =
    word_computes element rest longest named.shape
    ∙ ap (λ b. cond b (token (kind_or (upper_case element) (reserved (upper_case element))) (length element)) (broken 3)) (both (has_single_underlines element) (nat_le (length element) NAME_LIMIT) named.underlines (le-leb (length element) NAME_LIMIT named.short))

pub numeral_computes : (element rest : List ℕ) → IsLongest element rest → is_numeral element ≡ true → numeral_at (element ++ rest) ≡ cond (has_single_underlines element && not (begins runs_on rest)) (number_or (length element) (cond (nat_lt (value element) number_limit) (Some (value element)) None)) (broken 4)
unfolding numeral_at value_in_range
numeral_computes element rest longest shape =
    let f = front_is is_numeral_character element rest (and_right (begins is_ascii_digit element) (list_all is_numeral_character element) shape) (numeral_stops element rest longest shape) in
    rw (f.1, f.2, f.0) refl

numeral_read : (element rest : List ℕ) → IsLongest element rest → IsNumber element rest → numeral_at (element ++ rest) ≡ token (kinds.Number (pos (value element))) (length element)
numeral_read element rest longest number =
    numeral_computes element rest longest number.shape
    ∙ ap (λ b. cond b (number_or (length element) (cond (nat_lt (value element) number_limit) (Some (value element)) None)) (broken 4)) (both (has_single_underlines element) (not (begins runs_on rest)) number.underlines (ap not number.apart))
    ∙ ap (λ b. number_or (length element) (cond b (Some (value element)) None)) (lt-ltb (value element) number_limit number.in_range)

-- what the reader of labels makes of the characters up to one that no string literal has inside
pub label_computes : (inner rest : List ℕ) → list_all is_string_character inner ≡ true → begins is_string_character rest ≡ false
    → label_at (inner ++ rest) ≡ cond (((begins is_quotation_mark rest && list_all is_label_character inner) && nat_lt 0 (length inner)) && nat_le (length inner) LABEL_LIMIT) (token (kinds.Label inner) (length inner + 2)) (broken 5)
unfolding label_at
label_computes inner rest all stop =
    let f = front_is is_string_character inner rest all stop in
    rw (f.1, f.2, f.0) refl

label_read : (inner rest : List ℕ) → IsLabel inner → label_at (inner ++ quotation_mark ∷ rest) ≡ token (kinds.Label inner) (length inner + 2)
label_read inner rest label =
    label_computes inner (quotation_mark ∷ rest) (weaker is_label_character is_string_character label_is_string inner label.characters) refl
    ∙ ap (λ b. cond b (token (kinds.Label inner) (length inner + 2)) (broken 5))
    (both (list_all is_label_character inner && nat_lt 0 (length inner)) (nat_le (length inner) LABEL_LIMIT) (both (list_all is_label_character inner) (nat_lt 0 (length inner)) label.characters (lt-ltb 0 (length inner) label.some)) (le-leb (length inner) LABEL_LIMIT label.short))

-- a line feed is in no comment
line_stops : (rest : List ℕ) → begins stays_on_line rest ≡ false → begins is_comment_character rest ≡ false
line_stops [] e = refl
line_stops (c ∷ rest) e = go (is_comment_character c) refl
  where
    go : (b : Bool) → is_comment_character c ≡ b → is_comment_character c ≡ false
    go false f = f
    go true f = absurd (let online = comment_on_line c f in cc)

-- what the reader of comments makes of the characters up to one that no comment may hold
pub comment_computes : (inner rest : List ℕ) → list_all is_comment_character inner ≡ true → begins is_comment_character rest ≡ false
    → comment_at (inner ++ rest) ≡ cond (begins stays_on_line rest) (Err (record { number = 2; offset = length inner + 2 })) (Ok (record { kind = None; length = length inner + 2 }))
unfolding comment_at
comment_computes inner rest all stop =
    let f = front_is is_comment_character inner rest all stop in
    rw (f.2, f.0) refl

pub comment_read : (inner rest : List ℕ) → list_all is_comment_character inner ≡ true → begins stays_on_line rest ≡ false → comment_at (inner ++ rest) ≡ Ok (record { kind = None; length = length inner + 2 })
comment_read inner rest all stop =
    comment_computes inner rest all (line_stops rest stop)
    ∙ ap (λ b. cond b (Err (record { number = 2; offset = length inner + 2 })) (Ok (record { kind = None; length = length inner + 2 }))) stop

pub skip : {A : Type 0} (b : Bool) (x y : A) → b ≡ false → cond b x y ≡ y
skip b x y e = ap (λ v. cond v x y) e

pick : {A : Type 0} (b : Bool) (x y : A) → b ≡ true → cond b x y ≡ x
pick b x y e = ap (λ v. cond v x y) e

pub at_white : (c : ℕ) (text : List ℕ) → is_white c ≡ true → element_at (c ∷ text) ≡ Ok (record { kind = None; length = 1 })
unfolding element_at
at_white c text e = pick (is_white c) _ _ e

pub at_letter : (text : List ℕ) → begins is_ascii_alphabetic text ≡ true → element_at text ≡ word_at text
unfolding element_at
at_letter [] e = cc
at_letter (c ∷ text) e = skip (is_white c) _ _ (letter_not_white c e) ∙ pick (is_ascii_alphabetic c) _ _ e

pub at_digit : (text : List ℕ) → begins is_ascii_digit text ≡ true → element_at text ≡ numeral_at text
unfolding element_at
at_digit [] e = cc
at_digit (c ∷ text) e = skip (is_white c) _ _ (digit_not_white c e) ∙ (skip (is_ascii_alphabetic c) _ _ (digit_no_letter c e) ∙ pick (is_ascii_digit c) _ _ e)

pub at_quotation : (text : List ℕ) → element_at (quotation_mark ∷ text) ≡ label_at text
unfolding element_at
at_quotation text = refl

pub at_hyphens : (text : List ℕ) → element_at (hyphen ∷ hyphen ∷ text) ≡ comment_at text
unfolding element_at
at_hyphens text = refl

-- a delimiter that is the longest is part of no longer one, and of no comment
pub pair_element : (c d : ℕ) (x : Compound) → CompoundText x c d → IsElement (c ∷ d ∷ [])
pair_element c d (compounds.Delimiter delimiter) text = DelimiterElement delimiter (sym text)
pair_element c d compounds.LeftOut text = ExcludedElement text.0 (sym text.1)

too_short : (c d : ℕ) (rest : List ℕ) → IsLongest (c ∷ []) (d ∷ rest) → IsElement (c ∷ d ∷ []) → ⊥
too_short c d rest longest element = omega (arith, longest.longest (c ∷ d ∷ []) rest refl element)

not_compound : (c : ℕ) (rest : List ℕ) → IsLongest (c ∷ []) rest → compound_at c rest ≡ None
not_compound c [] longest = refl
not_compound c (d ∷ rest) longest = go (compound_of c d) refl
  where
    go : (o : Option Compound) → compound_of c d ≡ o → compound_of c d ≡ None
    go None e = e
    go (Some x) e = absurd (too_short c d rest longest (pair_element c d x (compound_text c d x e)))

not_comment : (c : ℕ) (rest : List ℕ) → IsLongest (c ∷ []) rest → (is_hyphen c && begins is_hyphen rest) ≡ false
not_comment c [] longest = go (is_hyphen c)
  where
    go : (b : Bool) → (b && false) ≡ false
    go true = refl
    go false = refl
not_comment c (d ∷ rest) longest = go (is_hyphen c && is_hyphen d) refl
  where
    go : (b : Bool) → (is_hyphen c && is_hyphen d) ≡ b → (is_hyphen c && is_hyphen d) ≡ false
    go false e = e
    go true e =
        let first : c ≡ hyphen = (Decides-eqb c hyphen).0 (and_left (is_hyphen c) (is_hyphen d) e) in
        let second : d ≡ hyphen = (Decides-eqb d hyphen).0 (and_right (is_hyphen c) (is_hyphen d) e) in
        absurd (too_short c d rest longest (CommentElement [] (cc) refl))

simple_read : (c : ℕ) (d : Delimiter) (rest : List ℕ) → is_white c ≡ false → is_ascii_alphabetic c ≡ false → is_ascii_digit c ≡ false → is_quotation_mark c ≡ false → simple_of c ≡ Some d → IsLongest (c ∷ []) rest → element_at (c ∷ rest) ≡ token (kinds.Delimiter d) 1
unfolding element_at delimiter_at
simple_read c d rest white letter digit quotation found longest =
    skip (is_white c) _ _ white ∙ (skip (is_ascii_alphabetic c) _ _ letter ∙ (skip (is_ascii_digit c) _ _ digit ∙ (skip (is_quotation_mark c) _ _ quotation ∙ (skip (is_hyphen c && begins is_hyphen rest) _ _ (not_comment c rest longest)
    ∙ (ap (compound_or c) (not_compound c rest longest) ∙ ap simple_or found)))))

delimiter_read : (d : Delimiter) (rest : List ℕ) → IsLongest (delimiter_text d) rest → element_at (delimiter_text d ++ rest) ≡ token (kinds.Delimiter d) (length (delimiter_text d))
unfolding element_at delimiter_at
delimiter_read delimiters.LeftParenthesis rest longest = simple_read 40 delimiters.LeftParenthesis rest refl refl refl refl refl longest
delimiter_read delimiters.RightParenthesis rest longest = simple_read 41 delimiters.RightParenthesis rest refl refl refl refl refl longest
delimiter_read delimiters.Comma rest longest = simple_read 44 delimiters.Comma rest refl refl refl refl refl longest
delimiter_read delimiters.Semicolon rest longest = simple_read 59 delimiters.Semicolon rest refl refl refl refl refl longest
delimiter_read delimiters.Colon rest longest = simple_read 58 delimiters.Colon rest refl refl refl refl refl longest
delimiter_read delimiters.Dot rest longest = simple_read 46 delimiters.Dot rest refl refl refl refl refl longest
delimiter_read delimiters.Apostrophe rest longest = simple_read 39 delimiters.Apostrophe rest refl refl refl refl refl longest
delimiter_read delimiters.Plus rest longest = simple_read 43 delimiters.Plus rest refl refl refl refl refl longest
delimiter_read delimiters.Minus rest longest = simple_read 45 delimiters.Minus rest refl refl refl refl refl longest
delimiter_read delimiters.Asterisk rest longest = simple_read 42 delimiters.Asterisk rest refl refl refl refl refl longest
delimiter_read delimiters.Slash rest longest = simple_read 47 delimiters.Slash rest refl refl refl refl refl longest
delimiter_read delimiters.Equals rest longest = simple_read 61 delimiters.Equals rest refl refl refl refl refl longest
delimiter_read delimiters.LessThan rest longest = simple_read 60 delimiters.LessThan rest refl refl refl refl refl longest
delimiter_read delimiters.GreaterThan rest longest = simple_read 62 delimiters.GreaterThan rest refl refl refl refl refl longest
delimiter_read delimiters.VerticalLine rest longest = simple_read 124 delimiters.VerticalLine rest refl refl refl refl refl longest
delimiter_read delimiters.Arrow rest longest = refl
delimiter_read delimiters.DoubleDot rest longest = refl
delimiter_read delimiters.Assignment rest longest = refl
delimiter_read delimiters.Inequality rest longest = refl
delimiter_read delimiters.LessOrEqual rest longest = refl
delimiter_read delimiters.GreaterOrEqual rest longest = refl

-- a token that stands at the front of a text is read
pub lexeme_read : (kind : TokenKind) (element rest : List ℕ) → IsLongest element rest → IsToken kind element rest → element_at (element ++ rest) ≡ token kind (length element)
lexeme_read (kinds.Identifier name) element rest longest (named, is, free) =
    at_letter (element ++ rest) (begins_with is_ascii_alphabetic element rest (and_left (begins is_ascii_alphabetic element) (list_all is_word_character element) named.shape))
    ∙ (word_read element rest longest named ∙ ap (λ k. token k (length element)) (ap (kind_or (upper_case element)) (ap reserved (sym is) ∙ reserved-none name free) ∙ ap kinds.Identifier (sym is)))
lexeme_read (kinds.Word word) element rest longest (named, is) =
    at_letter (element ++ rest) (begins_with is_ascii_alphabetic element rest (and_left (begins is_ascii_alphabetic element) (list_all is_word_character element) named.shape))
    ∙ (word_read element rest longest named ∙ ap (λ k. token k (length element)) (ap (kind_or (upper_case element)) (reserved-spelled (upper_case element) word is)))
lexeme_read (kinds.Number z) element rest longest (number, is) =
    at_digit (element ++ rest) (begins_with is_ascii_digit element rest (and_left (begins is_ascii_digit element) (list_all is_numeral_character element) number.shape))
    ∙ (numeral_read element rest longest number ∙ ap (λ k. token (kinds.Number k) (length element)) (sym is))
lexeme_read (kinds.Label inner) element rest longest (label, is) =
    ap (λ s. element_at (s ++ rest)) is ∙ (ap element_at (quoted_rest inner rest) ∙ (at_quotation (inner ++ quotation_mark ∷ rest) ∙ (label_read inner rest label ∙ ap (token (kinds.Label inner)) (sym (ap length is ∙ quoted_length inner)))))
lexeme_read (kinds.Delimiter d) element rest longest is =
    ap (λ s. element_at (s ++ rest)) is ∙ (delimiter_read d rest (subst (λ s. IsLongest s rest) is longest) ∙ ap (λ s. token (kinds.Delimiter d) (length s)) (sym is))
