-- The shape of a lexical element, by the class of its first character.
use Rattle.std.proofs.Common.{◌≡◌, ℕ, Bool, true, false, cond, List, [], ◌∷◌, ◌++◌, Some, refl, ap, ◌∙◌}
use Rattle.std.specs.List.{list_all}
use Rattle.std.specs.Char.{is_ascii_alphabetic, is_ascii_digit}
use Rattle.lexer.specs.declared.delimiter.Delimiter.{Delimiter}
use Rattle.lexer.specs.declared.delimiter.Delimiter.TheVariants as delimiters
use Rattle.lexer.specs.declared.element.Compound.{Compound}
use Rattle.lexer.specs.declared.element.Compound.TheVariants as compounds
use Rattle.lexer.specs.Characters.{is_quotation_mark, is_word_character, is_numeral_character, stays_on_line, is_string_character, begins}
use Rattle.lexer.specs.Delimiters.{delimiter_text, Excluded, DoubleStar, LeftLabelBracket, RightLabelBracket, Box, excluded_text}
use Rattle.lexer.specs.Elements.{quoted, comment, IsElement, WordElement, NumeralElement, StringElement, CommentElement, DelimiterElement, ExcludedElement}
use Rattle.lexer.specs.Reading.{simple_of, compound_of}
use Rattle.lexer.proofs.CharacterTests.{digit_no_letter}
use Rattle.lexer.proofs.Fronts.{and_left, and_right}

pub data Class : Type 0 where
  Letter : Class
  Digit : Class
  Quotation : Class
  Mark : Class

abbrev pub class_of : ℕ → Class
class_of c = cond (is_ascii_alphabetic c) Letter (cond (is_ascii_digit c) Digit (cond (is_quotation_mark c) Quotation Mark))

-- the class of the first character
abbrev pub class_at : List ℕ → Class
class_at [] = Mark
class_at (c ∷ text) = class_of c

pub letter_class : (text : List ℕ) → begins is_ascii_alphabetic text ≡ true → class_at text ≡ Letter
letter_class [] e = cc
letter_class (c ∷ text) e = ap (λ b. cond b Letter (cond (is_ascii_digit c) Digit (cond (is_quotation_mark c) Quotation Mark))) e

pub digit_class : (text : List ℕ) → begins is_ascii_digit text ≡ true → class_at text ≡ Digit
digit_class [] e = cc
digit_class (c ∷ text) e =
    ap (λ b. cond b Letter (cond (is_ascii_digit c) Digit (cond (is_quotation_mark c) Quotation Mark))) (digit_no_letter c e)
    ∙ ap (λ b. cond b Digit (cond (is_quotation_mark c) Quotation Mark)) e

pub mark_class : (c : ℕ) → is_ascii_alphabetic c ≡ false → is_ascii_digit c ≡ false → is_quotation_mark c ≡ false → class_of c ≡ Mark
mark_class c letter digit quotation =
    ap (λ b. cond b Letter (cond (is_ascii_digit c) Digit (cond (is_quotation_mark c) Quotation Mark))) letter
    ∙ ap (λ b. cond b Digit (cond (is_quotation_mark c) Quotation Mark)) digit
    ∙ ap (λ b. cond b Quotation Mark) quotation

-- an element is not empty, so its first character is that of the text
class_of_front : (test : ℕ → Bool) (element others : List ℕ) → begins test element ≡ true → class_at (element ++ others) ≡ class_at element
class_of_front test [] others e = cc
class_of_front test (c ∷ element) others e = refl

-- the shape of an element that begins with none of letter, digit and quotation mark
pub data Marks (element : List ℕ) : Type 0 where
  One : (c : ℕ) (d : Delimiter) → element ≡ c ∷ [] → simple_of c ≡ Some d → Marks element
  Two : (c d : ℕ) (x : Compound) → element ≡ c ∷ d ∷ [] → compound_of c d ≡ Some x → Marks element
  Line : (inner : List ℕ) → element ≡ comment inner → list_all stays_on_line inner ≡ true → Marks element

-- the shape of an element that begins with a character of this class
pub data Shaped (element : List ℕ) (class : Class) : Type 0 where
  AsWord : class ≡ Letter → list_all is_word_character element ≡ true → Shaped element class
  AsNumeral : class ≡ Digit → list_all is_numeral_character element ≡ true → Shaped element class
  AsString : class ≡ Quotation → (inner : List ℕ) → element ≡ quoted inner → list_all is_string_character inner ≡ true → Shaped element class
  AsMarks : class ≡ Mark → Marks element → Shaped element class

delimiter_shape : (element others : List ℕ) (d : Delimiter) → element ≡ delimiter_text d → Shaped element (class_at (element ++ others))
delimiter_shape element others delimiters.LeftParenthesis e = AsMarks (ap (λ s. class_at (s ++ others)) e) (One 40 delimiters.LeftParenthesis e refl)
delimiter_shape element others delimiters.RightParenthesis e = AsMarks (ap (λ s. class_at (s ++ others)) e) (One 41 delimiters.RightParenthesis e refl)
delimiter_shape element others delimiters.Comma e = AsMarks (ap (λ s. class_at (s ++ others)) e) (One 44 delimiters.Comma e refl)
delimiter_shape element others delimiters.Semicolon e = AsMarks (ap (λ s. class_at (s ++ others)) e) (One 59 delimiters.Semicolon e refl)
delimiter_shape element others delimiters.Colon e = AsMarks (ap (λ s. class_at (s ++ others)) e) (One 58 delimiters.Colon e refl)
delimiter_shape element others delimiters.Dot e = AsMarks (ap (λ s. class_at (s ++ others)) e) (One 46 delimiters.Dot e refl)
delimiter_shape element others delimiters.Apostrophe e = AsMarks (ap (λ s. class_at (s ++ others)) e) (One 39 delimiters.Apostrophe e refl)
delimiter_shape element others delimiters.Plus e = AsMarks (ap (λ s. class_at (s ++ others)) e) (One 43 delimiters.Plus e refl)
delimiter_shape element others delimiters.Minus e = AsMarks (ap (λ s. class_at (s ++ others)) e) (One 45 delimiters.Minus e refl)
delimiter_shape element others delimiters.Asterisk e = AsMarks (ap (λ s. class_at (s ++ others)) e) (One 42 delimiters.Asterisk e refl)
delimiter_shape element others delimiters.Slash e = AsMarks (ap (λ s. class_at (s ++ others)) e) (One 47 delimiters.Slash e refl)
delimiter_shape element others delimiters.Equals e = AsMarks (ap (λ s. class_at (s ++ others)) e) (One 61 delimiters.Equals e refl)
delimiter_shape element others delimiters.LessThan e = AsMarks (ap (λ s. class_at (s ++ others)) e) (One 60 delimiters.LessThan e refl)
delimiter_shape element others delimiters.GreaterThan e = AsMarks (ap (λ s. class_at (s ++ others)) e) (One 62 delimiters.GreaterThan e refl)
delimiter_shape element others delimiters.VerticalLine e = AsMarks (ap (λ s. class_at (s ++ others)) e) (One 124 delimiters.VerticalLine e refl)
delimiter_shape element others delimiters.Arrow e = AsMarks (ap (λ s. class_at (s ++ others)) e) (Two 61 62 (compounds.Delimiter delimiters.Arrow) e refl)
delimiter_shape element others delimiters.DoubleDot e = AsMarks (ap (λ s. class_at (s ++ others)) e) (Two 46 46 (compounds.Delimiter delimiters.DoubleDot) e refl)
delimiter_shape element others delimiters.Assignment e = AsMarks (ap (λ s. class_at (s ++ others)) e) (Two 58 61 (compounds.Delimiter delimiters.Assignment) e refl)
delimiter_shape element others delimiters.Inequality e = AsMarks (ap (λ s. class_at (s ++ others)) e) (Two 47 61 (compounds.Delimiter delimiters.Inequality) e refl)
delimiter_shape element others delimiters.LessOrEqual e = AsMarks (ap (λ s. class_at (s ++ others)) e) (Two 60 61 (compounds.Delimiter delimiters.LessOrEqual) e refl)
delimiter_shape element others delimiters.GreaterOrEqual e = AsMarks (ap (λ s. class_at (s ++ others)) e) (Two 62 61 (compounds.Delimiter delimiters.GreaterOrEqual) e refl)

excluded_shape : (element others : List ℕ) (x : Excluded) → element ≡ excluded_text x → Shaped element (class_at (element ++ others))
excluded_shape element others DoubleStar e = AsMarks (ap (λ s. class_at (s ++ others)) e) (Two 42 42 compounds.LeftOut e refl)
excluded_shape element others LeftLabelBracket e = AsMarks (ap (λ s. class_at (s ++ others)) e) (Two 60 60 compounds.LeftOut e refl)
excluded_shape element others RightLabelBracket e = AsMarks (ap (λ s. class_at (s ++ others)) e) (Two 62 62 compounds.LeftOut e refl)
excluded_shape element others Box e = AsMarks (ap (λ s. class_at (s ++ others)) e) (Two 60 62 compounds.LeftOut e refl)

pub shape : (element others : List ℕ) → IsElement element → Shaped element (class_at (element ++ others))
shape element others (WordElement e) =
    let letter = and_left (begins is_ascii_alphabetic element) (list_all is_word_character element) e in
    AsWord (class_of_front is_ascii_alphabetic element others letter ∙ letter_class element letter) (and_right (begins is_ascii_alphabetic element) (list_all is_word_character element) e)
shape element others (NumeralElement e) =
    let digit = and_left (begins is_ascii_digit element) (list_all is_numeral_character element) e in
    AsNumeral (class_of_front is_ascii_digit element others digit ∙ digit_class element digit) (and_right (begins is_ascii_digit element) (list_all is_numeral_character element) e)
shape element others (StringElement inner e all) = AsString (ap (λ s. class_at (s ++ others)) e) inner e all
shape element others (CommentElement inner e all) = AsMarks (ap (λ s. class_at (s ++ others)) e) (Line inner e all)
shape element others (DelimiterElement d e) = delimiter_shape element others d e
shape element others (ExcludedElement x e) = excluded_shape element others x e
