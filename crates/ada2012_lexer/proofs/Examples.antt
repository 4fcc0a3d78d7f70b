-- Texts with their tokens and comments, and texts with their first faults, as the definitions say. What is expected was written by hand.
use Rattle.std.proofs.Common.{◌≡◌, ℕ, List, [], ◌∷◌, map, replicate, None, Some, Ok, Err, refl}
use Rattle.std.specs.Prelude.{codes}
use Rattle.lexer.specs.declared.word.Word.TheVariants as words
use Rattle.ada2012_lexer.specs.declared.delimiter.Delimiter.TheVariants as delimiters
use Rattle.ada2012_lexer.specs.declared.fault.FaultKind.{FaultKind}
use Rattle.ada2012_lexer.specs.declared.fault.FaultKind.TheVariants as faults
use Rattle.ada2012_lexer.specs.declared.token.Span.{Span}
use Rattle.ada2012_lexer.specs.declared.token.Token.{Token}
use Rattle.ada2012_lexer.specs.declared.token.TokenKind.{TokenKind}
use Rattle.ada2012_lexer.specs.declared.token.TokenKind.TheVariants as kinds
use Rattle.ada2012_lexer.specs.Elements.{delimiter_at, element_at, name_at, number_at, string_at}
use Rattle.ada2012_lexer.specs.Numbers.{based_at, based_fraction_at, based_numeral_at, decimal_at, exponent_at, fraction_at, literal_at, numeral_at}
use Rattle.ada2012_lexer.specs.Reading.{TextReading, reading}
use Rattle.ada2012_lexer.specs.Words.{word_of}

abbrev t : TokenKind → (start end_ : ℕ) → Token
t kind start end_ = record { kind = kind; start = start; end_ = end_ }

abbrev comment : (start end_ : ℕ) → Span
comment start end_ = record { start = start; end_ = end_ }

abbrev elements : List Token → List Span → TextReading
elements tokens comments = Ok (record { tokens = tokens; comments = comments })

abbrev broken : FaultKind → (place : ℕ) → TextReading
broken kind place = Err (record { kind = kind; place = place })

-- a text, and what it is read as
record Row : Type 0 where
  text : List ℕ
  expected : TextReading

abbrev row : List ℕ → TextReading → Row
row text expected = record { text = text; expected = expected }

-- ---- lines of programs that the language of adarun has no tokens for

abbrev lines : List Row
lines =
    row (codes "Ada.Text_IO.Put_Line (\"cycle\" & Natural'Image (Count));") (elements (
    t (kinds.Identifier (codes "ADA")) 0 3 ∷ t (kinds.Delimiter delimiters.Dot) 3 4 ∷ t (kinds.Identifier (codes "TEXT_IO")) 4 11 ∷
    t (kinds.Delimiter delimiters.Dot) 11 12 ∷ t (kinds.Identifier (codes "PUT_LINE")) 12 20 ∷
    t (kinds.Delimiter delimiters.LeftParenthesis) 21 22 ∷ t kinds.StringLiteral 22 29 ∷ t (kinds.Delimiter delimiters.Ampersand) 30 31 ∷
    t (kinds.Identifier (codes "NATURAL")) 32 39 ∷ t (kinds.Delimiter delimiters.Apostrophe) 39 40 ∷ t (kinds.Identifier (codes "IMAGE")) 40 45 ∷
    t (kinds.Delimiter delimiters.LeftParenthesis) 46 47 ∷ t (kinds.Identifier (codes "COUNT")) 47 52 ∷
    t (kinds.Delimiter delimiters.RightParenthesis) 52 53 ∷ t (kinds.Delimiter delimiters.RightParenthesis) 53 54 ∷
    t (kinds.Delimiter delimiters.Semicolon) 54 55 ∷ []
    ) []) ∷
    row (codes "Put_Line (\"total =\" & R1.Total'Img);") (elements (
    t (kinds.Identifier (codes "PUT_LINE")) 0 8 ∷ t (kinds.Delimiter delimiters.LeftParenthesis) 9 10 ∷ t kinds.StringLiteral 10 19 ∷
    t (kinds.Delimiter delimiters.Ampersand) 20 21 ∷ t (kinds.Identifier (codes "R1")) 22 24 ∷ t (kinds.Delimiter delimiters.Dot) 24 25 ∷
    t (kinds.Identifier (codes "TOTAL")) 25 30 ∷ t (kinds.Delimiter delimiters.Apostrophe) 30 31 ∷ t (kinds.Identifier (codes "IMG")) 31 34 ∷
    t (kinds.Delimiter delimiters.RightParenthesis) 34 35 ∷ t (kinds.Delimiter delimiters.Semicolon) 35 36 ∷ []
    ) []) ∷
    row (codes "Put_Line (\"never here\");") (elements (
    t (kinds.Identifier (codes "PUT_LINE")) 0 8 ∷ t (kinds.Delimiter delimiters.LeftParenthesis) 9 10 ∷ t kinds.StringLiteral 10 22 ∷
    t (kinds.Delimiter delimiters.RightParenthesis) 22 23 ∷ t (kinds.Delimiter delimiters.Semicolon) 23 24 ∷ []
    ) []) ∷
    row (codes "type V is array (Positive range <>) of T;") (elements (
    t (kinds.Word words.Type) 0 4 ∷ t (kinds.Identifier (codes "V")) 5 6 ∷ t (kinds.Word words.Is) 7 9 ∷ t (kinds.Word words.Array) 10 15 ∷
    t (kinds.Delimiter delimiters.LeftParenthesis) 16 17 ∷ t (kinds.Identifier (codes "POSITIVE")) 17 25 ∷ t (kinds.Word words.Range) 26 31 ∷
    t (kinds.Delimiter delimiters.Box) 32 34 ∷ t (kinds.Delimiter delimiters.RightParenthesis) 34 35 ∷ t (kinds.Word words.Of) 36 38 ∷
    t (kinds.Identifier (codes "T")) 39 40 ∷ t (kinds.Delimiter delimiters.Semicolon) 40 41 ∷ []
    ) []) ∷
    []

lines_are_read : map (λ r. reading r.text) lines ≡ map (λ r. r.expected) lines
unfolding element_at name_at word_of number_at literal_at numeral_at based_numeral_at exponent_at fraction_at based_fraction_at decimal_at based_at string_at delimiter_at
lines_are_read = refl

-- ---- apostrophes

abbrev apostrophes : List Row
apostrophes =
    row (codes "T'('a')") (elements (
    t (kinds.Identifier (codes "T")) 0 1 ∷ t (kinds.Delimiter delimiters.Apostrophe) 1 2 ∷ t (kinds.Delimiter delimiters.LeftParenthesis) 2 3 ∷
    t (kinds.Character 97) 3 6 ∷ t (kinds.Delimiter delimiters.RightParenthesis) 6 7 ∷ []
    ) []) ∷
    row (codes "X.all'Size") (elements (
    t (kinds.Identifier (codes "X")) 0 1 ∷ t (kinds.Delimiter delimiters.Dot) 1 2 ∷ t (kinds.Word words.All) 2 5 ∷
    t (kinds.Delimiter delimiters.Apostrophe) 5 6 ∷ t (kinds.Identifier (codes "SIZE")) 6 10 ∷ []
    ) []) ∷
    row (codes "F (1)'A'B") (elements (
    t (kinds.Identifier (codes "F")) 0 1 ∷ t (kinds.Delimiter delimiters.LeftParenthesis) 2 3 ∷ t (kinds.Integer (Some 1)) 3 4 ∷
    t (kinds.Delimiter delimiters.RightParenthesis) 4 5 ∷ t (kinds.Delimiter delimiters.Apostrophe) 5 6 ∷ t (kinds.Identifier (codes "A")) 6 7 ∷
    t (kinds.Delimiter delimiters.Apostrophe) 7 8 ∷ t (kinds.Identifier (codes "B")) 8 9 ∷ []
    ) []) ∷
    row (codes "('''=')')") (elements (
    t (kinds.Delimiter delimiters.LeftParenthesis) 0 1 ∷ t (kinds.Character 39) 1 4 ∷ t (kinds.Delimiter delimiters.Equals) 4 5 ∷
    t (kinds.Character 41) 5 8 ∷ t (kinds.Delimiter delimiters.RightParenthesis) 8 9 ∷ []
    ) []) ∷
    row (codes "A --x\n 'B") (elements (
    t (kinds.Identifier (codes "A")) 0 1 ∷ t (kinds.Delimiter delimiters.Apostrophe) 7 8 ∷ t (kinds.Identifier (codes "B")) 8 9 ∷ []
    ) (comment 2 5 ∷ [])) ∷
    row (codes "\"+\"'A'x'+") (elements (
    t kinds.StringLiteral 0 3 ∷ t (kinds.Delimiter delimiters.Apostrophe) 3 4 ∷ t (kinds.Identifier (codes "A")) 4 5 ∷
    t (kinds.Delimiter delimiters.Apostrophe) 5 6 ∷ t (kinds.Identifier (codes "X")) 6 7 ∷ t (kinds.Delimiter delimiters.Apostrophe) 7 8 ∷
    t (kinds.Delimiter delimiters.Plus) 8 9 ∷ []
    ) []) ∷
    row (codes "when 'x'") (elements (t (kinds.Word words.When) 0 4 ∷ t (kinds.Character 120) 5 8 ∷ []) []) ∷
    []

apostrophes_are_read : map (λ r. reading r.text) apostrophes ≡ map (λ r. r.expected) apostrophes
unfolding element_at name_at word_of number_at literal_at numeral_at based_numeral_at exponent_at fraction_at based_fraction_at decimal_at based_at string_at delimiter_at
apostrophes_are_read = refl

-- ---- numeric literals

abbrev numbers : List Row
numbers =
    row (codes "1_000 16#FF# 2#1010_1010#e4 1E6 8#7#E+1 0") (elements (
    t (kinds.Integer (Some 1000)) 0 5 ∷ t (kinds.Integer (Some 255)) 6 12 ∷ t (kinds.Integer (Some 2720)) 13 27 ∷
    t (kinds.Integer (Some 1000000)) 28 31 ∷ t (kinds.Integer (Some 56)) 32 39 ∷ t (kinds.Integer (Some 0)) 40 41 ∷ []
    ) []) ∷
    row (codes "1..10") (elements (
    t (kinds.Integer (Some 1)) 0 1 ∷ t (kinds.Delimiter delimiters.DoubleDot) 1 3 ∷ t (kinds.Integer (Some 10)) 3 5 ∷ []
    ) []) ∷
    row (codes "3.14 1.0E-3 16#F.8#E1 1.5e+2") (elements (t kinds.Real 0 4 ∷ t kinds.Real 5 11 ∷ t kinds.Real 12 21 ∷ t kinds.Real 22 28 ∷ []) []) ∷
    row (codes "9_223_372_036_854_775_807 16#7fff_FFFF_ffff_ffff#") (elements (
    t (kinds.Integer (Some 9223372036854775807)) 0 25 ∷ t (kinds.Integer (Some 9223372036854775807)) 26 49 ∷ []
    ) []) ∷
    row (codes "9_223_372_036_854_775_808 16#1#E99 0E99") (elements (
    t (kinds.Integer None) 0 25 ∷ t (kinds.Integer None) 26 34 ∷ t (kinds.Integer (Some 0)) 35 39 ∷ []
    ) []) ∷
    []

numbers_are_read : map (λ r. reading r.text) numbers ≡ map (λ r. r.expected) numbers
unfolding element_at name_at word_of number_at literal_at numeral_at based_numeral_at exponent_at fraction_at based_fraction_at decimal_at based_at string_at delimiter_at
numbers_are_read = refl

-- ---- strings and comments

abbrev strings : List Row
strings =
    row (codes "\"a\"\"b\" \"\" \"\"\"\"") (elements (t kinds.StringLiteral 0 6 ∷ t kinds.StringLiteral 7 9 ∷ t kinds.StringLiteral 10 14 ∷ []) []) ∷
    row (codes "\"a\" \"b\"") (elements (t kinds.StringLiteral 0 3 ∷ t kinds.StringLiteral 4 7 ∷ []) []) ∷
    row (codes "\"--\"-A") (elements (
    t kinds.StringLiteral 0 4 ∷ t (kinds.Delimiter delimiters.Minus) 4 5 ∷ t (kinds.Identifier (codes "A")) 5 6 ∷ []
    ) []) ∷
    row (codes "--\nA--\"'\r\n-- B") (elements (t (kinds.Identifier (codes "A")) 3 4 ∷ []) (comment 0 2 ∷ comment 4 8 ∷ comment 10 14 ∷ [])) ∷
    row (45 ∷ 45 ∷ 233 ∷ 10 ∷ 34 ∷ 195 ∷ 34 ∷ []) (elements (t kinds.StringLiteral 4 7 ∷ []) (comment 0 3 ∷ [])) ∷
    []

strings_are_read : map (λ r. reading r.text) strings ≡ map (λ r. r.expected) strings
unfolding element_at name_at word_of number_at literal_at numeral_at based_numeral_at exponent_at fraction_at based_fraction_at decimal_at based_at string_at delimiter_at
strings_are_read = refl

-- ---- words, separators, delimiters

abbrev others : List Row
others =
    row (codes "BEGIN Begin begin xOr Beginning") (elements (
    t (kinds.Word words.Begin) 0 5 ∷ t (kinds.Word words.Begin) 6 11 ∷ t (kinds.Word words.Begin) 12 17 ∷ t (kinds.Word words.Xor) 18 21 ∷
    t (kinds.Identifier (codes "BEGINNING")) 22 31 ∷ []
    ) []) ∷
    row (codes "A\t\n\u{b}\u{c}\r B") (elements (t (kinds.Identifier (codes "A")) 0 1 ∷ t (kinds.Identifier (codes "B")) 7 8 ∷ []) []) ∷
    row (codes "=> .. ** := /= >= <= << >> <>") (elements (
    t (kinds.Delimiter delimiters.Arrow) 0 2 ∷ t (kinds.Delimiter delimiters.DoubleDot) 3 5 ∷ t (kinds.Delimiter delimiters.DoubleStar) 6 8 ∷
    t (kinds.Delimiter delimiters.Assignment) 9 11 ∷ t (kinds.Delimiter delimiters.Inequality) 12 14 ∷
    t (kinds.Delimiter delimiters.GreaterOrEqual) 15 17 ∷ t (kinds.Delimiter delimiters.LessOrEqual) 18 20 ∷
    t (kinds.Delimiter delimiters.LeftLabelBracket) 21 23 ∷ t (kinds.Delimiter delimiters.RightLabelBracket) 24 26 ∷
    t (kinds.Delimiter delimiters.Box) 27 29 ∷ []
    ) []) ∷
    row (codes "&()*+,-./:;<|>A'=") (elements (
    t (kinds.Delimiter delimiters.Ampersand) 0 1 ∷ t (kinds.Delimiter delimiters.LeftParenthesis) 1 2 ∷
    t (kinds.Delimiter delimiters.RightParenthesis) 2 3 ∷ t (kinds.Delimiter delimiters.Asterisk) 3 4 ∷ t (kinds.Delimiter delimiters.Plus) 4 5 ∷
    t (kinds.Delimiter delimiters.Comma) 5 6 ∷ t (kinds.Delimiter delimiters.Minus) 6 7 ∷ t (kinds.Delimiter delimiters.Dot) 7 8 ∷
    t (kinds.Delimiter delimiters.Slash) 8 9 ∷ t (kinds.Delimiter delimiters.Colon) 9 10 ∷ t (kinds.Delimiter delimiters.Semicolon) 10 11 ∷
    t (kinds.Delimiter delimiters.LessThan) 11 12 ∷ t (kinds.Delimiter delimiters.VerticalLine) 12 13 ∷
    t (kinds.Delimiter delimiters.GreaterThan) 13 14 ∷ t (kinds.Identifier (codes "A")) 14 15 ∷ t (kinds.Delimiter delimiters.Apostrophe) 15 16 ∷
    t (kinds.Delimiter delimiters.Equals) 16 17 ∷ []
    ) []) ∷
    row [] (elements [] []) ∷
    []

others_are_read : map (λ r. reading r.text) others ≡ map (λ r. r.expected) others
unfolding element_at name_at word_of number_at literal_at numeral_at based_numeral_at exponent_at fraction_at based_fraction_at decimal_at based_at string_at delimiter_at
others_are_read = refl

-- ---- faults

abbrev broken_texts : List Row
broken_texts =
    row (codes "A #") (broken faults.StrayCharacter 2) ∷
    row (65 ∷ 233 ∷ []) (broken faults.StrayCharacter 1) ∷
    row (codes "X := A__B;") (broken faults.IdentifierUnderline 5) ∷
    row (codes "A_ B") (broken faults.IdentifierUnderline 0) ∷
    row (replicate 41 65) (broken faults.LongIdentifier 0) ∷
    row (codes "1__0") (broken faults.NumberUnderline 0) ∷
    row (codes "1_;") (broken faults.NumberUnderline 0) ∷
    row (codes "1E;") (broken faults.MissingDigit 0) ∷
    row (codes "16##") (broken faults.MissingDigit 0) ∷
    row (codes "17#1#") (broken faults.WrongBase 0) ∷
    row (codes "1#0#") (broken faults.WrongBase 0) ∷
    row (codes "2#12#") (broken faults.WrongDigit 0) ∷
    row (codes "16#1G#") (broken faults.WrongDigit 0) ∷
    row (codes "16#FF") (broken faults.OpenBasedLiteral 0) ∷
    row (codes "A := 1E-2;") (broken faults.NegativeExponent 5) ∷
    row (codes "12abc") (broken faults.JoinedNumber 0) ∷
    row (codes "16#F#2") (broken faults.JoinedNumber 0) ∷
    row (codes "A := \"abc\n\";") (broken faults.OpenString 5) ∷
    row (codes "\"a\tb\"") (broken faults.StrayCharacter 2) ∷
    row (codes "\"a\"\"") (broken faults.OpenString 0) ∷
    row (codes "('ab')") (broken faults.OpenCharacter 1) ∷
    row (codes "= ''") (broken faults.OpenCharacter 2) ∷
    []

broken_texts_are_read : map (λ r. reading r.text) broken_texts ≡ map (λ r. r.expected) broken_texts
unfolding element_at name_at word_of number_at literal_at numeral_at based_numeral_at exponent_at fraction_at based_fraction_at decimal_at based_at string_at delimiter_at
broken_texts_are_read = refl
