-- Which element is the longest.
use Rattle.std.proofs.Common.{◌≡◌, ℕ, ◌+◌, ◌≤◌, ◌<◌, Bool, true, false, ◌&&◌, List, [], ◌∷◌, ◌++◌, length, take, drop, Some, None, refl, sym, ap, ◌∙◌, subst, arith, append_assoc, length-append, take-append-drop}
use Rattle.std.specs.List.{list_all, prefix_len}
use Rattle.std.specs.Char.{is_ascii_alphabetic, is_ascii_digit}
use Rattle.std.proofs.lemmas.List.Folds.{length-prefix_len}
use Rattle.lexer.specs.declared.delimiter.Delimiter.{Delimiter}
use Rattle.lexer.specs.declared.element.Compound.{Compound}
use Rattle.lexer.specs.Characters.{quotation_mark, hyphen, is_hyphen, is_word_character, is_numeral_character, stays_on_line, is_string_character, begins}
use Rattle.lexer.specs.Delimiters.{delimiter_text}
use Rattle.lexer.specs.Elements.{quoted, comment, IsElement, WordElement, NumeralElement, StringElement, CommentElement, DelimiterElement, IsLongest}
use Rattle.lexer.specs.Reading.{simple_of, compound_of, compound_at}
use Rattle.lexer.proofs.CharacterTests.{letter_in_word, digit_in_numeral}
use Rattle.lexer.proofs.Fronts.{both, front_fits, front_passes, front_ends, prefix_len-yes}
use Rattle.lexer.proofs.Shapes.{Letter, Digit, Quotation, Mark, class_of, class_at, letter_class, digit_class, One, Two, Line, Shaped, AsWord, AsNumeral, AsString, AsMarks, shape}

-- the shape of an element that begins a text
at_front : (text other others : List ℕ) → text ≡ other ++ others → IsElement other → Shaped other (class_at text)
at_front text other others e element = subst (λ s. Shaped other (class_at s)) (sym e) (shape other others element)

word_fits : (text other others : List ℕ) → class_at text ≡ Letter → text ≡ other ++ others → Shaped other (class_at text) → length other ≤ prefix_len is_word_character text
word_fits text other others letter e (AsWord k all) = subst (λ s. length other ≤ prefix_len is_word_character s) (sym e) (front_fits is_word_character other others all)
word_fits text other others letter e (AsNumeral k all) = absurd (let differs : Letter ≡ Digit = sym letter ∙ k in cc)
word_fits text other others letter e (AsString k inner is all) = absurd (let differs : Letter ≡ Quotation = sym letter ∙ k in cc)
word_fits text other others letter e (AsMarks k m) = absurd (let differs : Letter ≡ Mark = sym letter ∙ k in cc)

numeral_fits : (text other others : List ℕ) → class_at text ≡ Digit → text ≡ other ++ others → Shaped other (class_at text) → length other ≤ prefix_len is_numeral_character text
numeral_fits text other others digit e (AsNumeral k all) = subst (λ s. length other ≤ prefix_len is_numeral_character s) (sym e) (front_fits is_numeral_character other others all)
numeral_fits text other others digit e (AsWord k all) = absurd (let differs : Digit ≡ Letter = sym digit ∙ k in cc)
numeral_fits text other others digit e (AsString k inner is all) = absurd (let differs : Digit ≡ Quotation = sym digit ∙ k in cc)
numeral_fits text other others digit e (AsMarks k m) = absurd (let differs : Digit ≡ Mark = sym digit ∙ k in cc)

pub quoted_length : (inner : List ℕ) → length (quoted inner) ≡ length inner + 2
quoted_length inner = omega (arith, length-append inner (quotation_mark ∷ []))

pub quoted_rest : (inner others : List ℕ) → quoted inner ++ others ≡ quotation_mark ∷ (inner ++ quotation_mark ∷ others)
quoted_rest inner others = ap (λ s. quotation_mark ∷ s) (append_assoc inner (quotation_mark ∷ []) others)

string_fits : (text other others : List ℕ) → quotation_mark ∷ text ≡ other ++ others → Shaped other (class_at (quotation_mark ∷ text)) → length other ≤ prefix_len is_string_character text + 2
string_fits text other others e (AsString k inner is all) =
    let behind : text ≡ inner ++ quotation_mark ∷ others = (let whole : quotation_mark ∷ text ≡ quotation_mark ∷ (inner ++ quotation_mark ∷ others) = e ∙ ap (λ s. s ++ others) is ∙ quoted_rest inner others in cc) in
    let fits : length inner ≤ prefix_len is_string_character text = subst (λ s. length inner ≤ prefix_len is_string_character s) (sym behind) (front_fits is_string_character inner (quotation_mark ∷ others) all) in
    omega (arith, ap length is, quoted_length inner, fits)
string_fits text other others e (AsWord k all) = absurd (let differs : Quotation ≡ Letter = k in cc)
string_fits text other others e (AsNumeral k all) = absurd (let differs : Quotation ≡ Digit = k in cc)
string_fits text other others e (AsMarks k m) = absurd (let differs : Quotation ≡ Mark = k in cc)

comment_fits : (text other others : List ℕ) → hyphen ∷ hyphen ∷ text ≡ other ++ others → Shaped other (class_at (hyphen ∷ hyphen ∷ text)) → length other ≤ prefix_len stays_on_line text + 2
comment_fits text other others e (AsMarks k (One c d is s)) = omega (arith, ap length is)
comment_fits text other others e (AsMarks k (Two c d x is s)) = omega (arith, ap length is)
comment_fits text other others e (AsMarks k (Line inner is all)) =
    let behind : text ≡ inner ++ others = (let whole : hyphen ∷ hyphen ∷ text ≡ hyphen ∷ hyphen ∷ (inner ++ others) = e ∙ ap (λ s. s ++ others) is in cc) in
    let fits : length inner ≤ prefix_len stays_on_line text = subst (λ s. length inner ≤ prefix_len stays_on_line s) (sym behind) (front_fits stays_on_line inner others all) in
    omega (arith, ap length is, fits)
comment_fits text other others e (AsWord k all) = absurd (let differs : Mark ≡ Letter = k in cc)
comment_fits text other others e (AsNumeral k all) = absurd (let differs : Mark ≡ Digit = k in cc)
comment_fits text other others e (AsString k inner is all) = absurd (let differs : Mark ≡ Quotation = k in cc)

-- a character that begins a comment, or a compound delimiter with the next one, is no delimiter of its own
simple_fits : (c : ℕ) (rest other others : List ℕ) → class_of c ≡ Mark → compound_at c rest ≡ None → (is_hyphen c && begins is_hyphen rest) ≡ false → c ∷ rest ≡ other ++ others → Shaped other (class_of c) → length other ≤ 1
simple_fits c rest other others mark none apart e (AsMarks k (One b d is s)) = omega (arith, ap length is)
simple_fits c rest other others mark none apart e (AsMarks k (Two b d x is s)) =
    absurd (let whole : c ∷ rest ≡ b ∷ d ∷ others = e ∙ ap (λ s. s ++ others) is in
    let first : c ≡ b = cc in
    let behind : rest ≡ d ∷ others = cc in
    let found : compound_at c rest ≡ Some x = ap (λ s. compound_at c s) behind ∙ ap (λ a. compound_of a d) first ∙ s in cc)
simple_fits c rest other others mark none apart e (AsMarks k (Line inner is all)) =
    absurd (let whole : c ∷ rest ≡ hyphen ∷ hyphen ∷ (inner ++ others) = e ∙ ap (λ s. s ++ others) is in
    let first : c ≡ hyphen = cc in
    let behind : rest ≡ hyphen ∷ (inner ++ others) = cc in
    let found : (is_hyphen c && begins is_hyphen rest) ≡ true = ap (λ a. is_hyphen a && begins is_hyphen rest) first ∙ ap (λ s. begins is_hyphen s) behind in
    let differs : true ≡ false = sym found ∙ apart in cc)
simple_fits c rest other others mark none apart e (AsWord k all) = absurd (let differs : Mark ≡ Letter = sym mark ∙ k in cc)
simple_fits c rest other others mark none apart e (AsNumeral k all) = absurd (let differs : Mark ≡ Digit = sym mark ∙ k in cc)
simple_fits c rest other others mark none apart e (AsString k inner is all) = absurd (let differs : Mark ≡ Quotation = sym mark ∙ k in cc)

compound_fits : (c d : ℕ) (x : Compound) (rest other others : List ℕ) → class_of c ≡ Mark → compound_of c d ≡ Some x → c ∷ d ∷ rest ≡ other ++ others → Shaped other (class_of c) → length other ≤ 2
compound_fits c d x rest other others mark found e (AsMarks k (One b a is s)) = omega (arith, ap length is)
compound_fits c d x rest other others mark found e (AsMarks k (Two b a y is s)) = omega (arith, ap length is)
compound_fits c d x rest other others mark found e (AsMarks k (Line inner is all)) =
    absurd (let whole : c ∷ d ∷ rest ≡ hyphen ∷ hyphen ∷ (inner ++ others) = e ∙ ap (λ s. s ++ others) is in
    let first : c ≡ hyphen = cc in
    let second : d ≡ hyphen = cc in
    let none : compound_of c d ≡ None = ap (λ a. compound_of a d) first in
    cc)
compound_fits c d x rest other others mark found e (AsWord k all) = absurd (let differs : Mark ≡ Letter = sym mark ∙ k in cc)
compound_fits c d x rest other others mark found e (AsNumeral k all) = absurd (let differs : Mark ≡ Digit = sym mark ∙ k in cc)
compound_fits c d x rest other others mark found e (AsString k inner is all) = absurd (let differs : Mark ≡ Quotation = sym mark ∙ k in cc)

-- nothing begins with a character that is no delimiter, and none with the next one
pub stray : (c : ℕ) (rest other others : List ℕ) → class_of c ≡ Mark → compound_at c rest ≡ None → (is_hyphen c && begins is_hyphen rest) ≡ false → simple_of c ≡ None → c ∷ rest ≡ other ++ others → IsElement other → ⊥
stray c rest other others mark none apart simple e element = go (at_front (c ∷ rest) other others e element)
  where
    go : Shaped other (class_of c) → ⊥
    go (AsMarks k (One b d is s)) =
        let whole : c ∷ rest ≡ b ∷ others = e ∙ ap (λ s. s ++ others) is in
        let first : c ≡ b = cc in
        let found : simple_of c ≡ Some d = ap simple_of first ∙ s in
        cc
    go (AsMarks k (Two b d x is s)) =
        let short : length other ≤ 1 = simple_fits c rest other others mark none apart e (AsMarks k (Two b d x is s)) in
        omega (arith, ap length is)
    go (AsMarks k (Line inner is all)) =
        let short : length other ≤ 1 = simple_fits c rest other others mark none apart e (AsMarks k (Line inner is all)) in
        omega (arith, ap length is)
    go (AsWord k all) = let differs : Mark ≡ Letter = sym mark ∙ k in cc
    go (AsNumeral k all) = let differs : Mark ≡ Digit = sym mark ∙ k in cc
    go (AsString k inner is all) = let differs : Mark ≡ Quotation = sym mark ∙ k in cc

-- the longest front of word characters begins as the text does
pub begins_front : (p q : ℕ → Bool) (text : List ℕ) → ((x : ℕ) → q x ≡ true → p x ≡ true) → begins q text ≡ true → begins q (take (prefix_len p text) text) ≡ true
begins_front p q [] implied e = e
begins_front p q (c ∷ text) implied e = subst (λ n. begins q (take n (c ∷ text)) ≡ true) (sym (prefix_len-yes p c text (implied c e))) e

pub positive_front : (p q : ℕ → Bool) (text : List ℕ) → ((x : ℕ) → q x ≡ true → p x ≡ true) → begins q text ≡ true → 0 < prefix_len p text
positive_front p q [] implied e = cc
positive_front p q (c ∷ text) implied e = omega (arith, prefix_len-yes p c text (implied c e))

pub word_longest : (text : List ℕ) → begins is_ascii_alphabetic text ≡ true → IsLongest (take (prefix_len is_word_character text) text) (drop (prefix_len is_word_character text) text)
word_longest text letter =
    let n = prefix_len is_word_character text in
    record {
      shape = WordElement (both (begins is_ascii_alphabetic (take n text)) (list_all is_word_character (take n text)) (begins_front is_word_character is_ascii_alphabetic text letter_in_word letter) (front_passes is_word_character text));
      longest = λ other others e element.
          let e' : text ≡ other ++ others = sym (take-append-drop n text) ∙ e in
          omega (arith, length-prefix_len is_word_character text, word_fits text other others (letter_class text letter) e' (at_front text other others e' element));
    }

pub numeral_longest : (text : List ℕ) → begins is_ascii_digit text ≡ true → IsLongest (take (prefix_len is_numeral_character text) text) (drop (prefix_len is_numeral_character text) text)
numeral_longest text digit =
    let n = prefix_len is_numeral_character text in
    record {
      shape = NumeralElement (both (begins is_ascii_digit (take n text)) (list_all is_numeral_character (take n text)) (begins_front is_numeral_character is_ascii_digit text digit_in_numeral digit) (front_passes is_numeral_character text));
      longest = λ other others e element.
          let e' : text ≡ other ++ others = sym (take-append-drop n text) ∙ e in
          omega (arith, length-prefix_len is_numeral_character text, numeral_fits text other others (digit_class text digit) e' (at_front text other others e' element));
    }

pub string_longest : (inner rest : List ℕ) → list_all is_string_character inner ≡ true → IsLongest (quoted inner) rest
string_longest inner rest all = record {
  shape = StringElement inner refl all;
  longest = λ other others e element.
      let e' : quotation_mark ∷ (inner ++ quotation_mark ∷ rest) ≡ other ++ others = sym (quoted_rest inner rest) ∙ e in
      omega (arith, quoted_length inner, front_ends is_string_character inner (quotation_mark ∷ rest) all refl, string_fits (inner ++ quotation_mark ∷ rest) other others e' (at_front (quotation_mark ∷ (inner ++ quotation_mark ∷ rest)) other others e' element));
}

pub comment_longest : (inner rest : List ℕ) → list_all stays_on_line inner ≡ true → begins stays_on_line rest ≡ false → IsLongest (comment inner) rest
comment_longest inner rest all stop = record {
  shape = CommentElement inner refl all;
  longest = λ other others e element.
      omega (arith, front_ends stays_on_line inner rest all stop, comment_fits (inner ++ rest) other others e (at_front (hyphen ∷ hyphen ∷ (inner ++ rest)) other others e element));
}

pub simple_longest : (c : ℕ) (d : Delimiter) (rest : List ℕ) → delimiter_text d ≡ c ∷ [] → class_of c ≡ Mark → compound_at c rest ≡ None → (is_hyphen c && begins is_hyphen rest) ≡ false → IsLongest (c ∷ []) rest
simple_longest c d rest is mark none apart = record {
  shape = DelimiterElement d (sym is);
  longest = λ other others e element. simple_fits c rest other others mark none apart e (at_front (c ∷ rest) other others e element);
}

pub compound_longest : (c e : ℕ) (d : Delimiter) (x : Compound) (rest : List ℕ) → delimiter_text d ≡ c ∷ e ∷ [] → class_of c ≡ Mark → compound_of c e ≡ Some x → IsLongest (c ∷ e ∷ []) rest
compound_longest c e d x rest is mark found = record {
  shape = DelimiterElement d (sym is);
  longest = λ other others same element. compound_fits c e x rest other others mark found same (at_front (c ∷ e ∷ rest) other others same element);
}
