-- Texts with the kinds of the tokens that spell them, in upper case and without underlines, worked by computation; and a text with the places of its tokens.
use Rattle.std.proofs.Common.{◌≡◌, ℕ, zero, suc, ◌+◌, List, [], ◌∷◌, ◌++◌, drop, Option, Some, None, Ok, Err, map, refl}
use Rattle.std.specs.Prelude.{codes, pos, option_map}
use Rattle.lexer.specs.declared.token.Token.{Token}
use Rattle.lexer.specs.declared.token.TokenKind.{TokenKind}
use Rattle.lexer.specs.declared.token.TokenKind.TheVariants as kinds
use Rattle.lexer.specs.declared.word.Word.{Word}
use Rattle.lexer.specs.declared.word.Word.TheVariants as words
use Rattle.lexer.specs.declared.delimiter.Delimiter.{Delimiter}
use Rattle.lexer.specs.declared.delimiter.Delimiter.TheVariants as delimiters
use Rattle.lexer.specs.declared.element.Element.{Element}
use Rattle.lexer.specs.Reading.{Reading, tokens_of, reserved, word_at, value_in_range, numeral_at, label_at, comment_at, delimiter_at, element_at}

-- the tokens of a text, read element by element, n elements at most
abbrev behind : (Element → Option (List Token)) → Reading → Option (List Token)
behind f (Ok e) = f e
behind f (Err b) = None

read : ℕ → ℕ → List ℕ → Option (List Token)
read n at [] = Some []
read zero at (c ∷ text) = None
read (suc n) at (c ∷ text) = behind (λ e. option_map (λ tokens. tokens_of at e ++ tokens) (read n (at + e.length) (drop e.length (c ∷ text)))) (element_at (c ∷ text))

abbrev name : List ℕ → TokenKind
name text = kinds.Identifier text

abbrev word : Word → TokenKind
word w = kinds.Word w

abbrev number : ℕ → TokenKind
number n = kinds.Number (pos n)

abbrev label : List ℕ → TokenKind
label text = kinds.Label text

abbrev mark : Delimiter → TokenKind
mark d = kinds.Delimiter d

abbrev kind_of : Token → TokenKind
kind_of t = t.kind

-- the kinds of the tokens of a text of 200 lexical elements at most, if tokens spell it
abbrev kinds_of : List ℕ → Option (List TokenKind)
kinds_of text = option_map (map kind_of) (read 200 0 text)

nothing : kinds_of (codes "") ≡ Some []
unfolding read element_at word_at reserved numeral_at value_in_range label_at comment_at delimiter_at
nothing = refl

white_characters : kinds_of (32 ∷ 9 ∷ 13 ∷ 10 ∷ []) ≡ Some []
unfolding read element_at word_at reserved numeral_at value_in_range label_at comment_at delimiter_at
white_characters = refl

apostrophe_behind_a_name : kinds_of (codes "a'b") ≡ Some (name (codes "A") ∷ mark delimiters.Apostrophe ∷ name (codes "B") ∷ [])
unfolding read element_at word_at reserved numeral_at value_in_range label_at comment_at delimiter_at
apostrophe_behind_a_name = refl

attribute : kinds_of (codes "A'First") ≡ Some (name (codes "A") ∷ mark delimiters.Apostrophe ∷ name (codes "FIRST") ∷ [])
unfolding read element_at word_at reserved numeral_at value_in_range label_at comment_at delimiter_at
attribute = refl

range_of_literals : kinds_of (codes "1..2") ≡ Some (number 1 ∷ mark delimiters.DoubleDot ∷ number 2 ∷ [])
unfolding read element_at word_at reserved numeral_at value_in_range label_at comment_at delimiter_at
range_of_literals = refl

literals_have_no_fraction : kinds_of (codes "1.5") ≡ Some (number 1 ∷ mark delimiters.Dot ∷ number 5 ∷ [])
unfolding read element_at word_at reserved numeral_at value_in_range label_at comment_at delimiter_at
literals_have_no_fraction = refl

underline_in_a_literal : kinds_of (codes "1_000") ≡ Some (number 1000 ∷ [])
unfolding read element_at word_at reserved numeral_at value_in_range label_at comment_at delimiter_at
underline_in_a_literal = refl

three_dots : kinds_of (codes "a...b") ≡ Some (name (codes "A") ∷ mark delimiters.DoubleDot ∷ mark delimiters.Dot ∷ name (codes "B") ∷ [])
unfolding read element_at word_at reserved numeral_at value_in_range label_at comment_at delimiter_at
three_dots = refl

arrow_first : kinds_of (codes "=>>") ≡ Some (mark delimiters.Arrow ∷ mark delimiters.GreaterThan ∷ [])
unfolding read element_at word_at reserved numeral_at value_in_range label_at comment_at delimiter_at
arrow_first = refl

assignment_first : kinds_of (codes ":==") ≡ Some (mark delimiters.Assignment ∷ mark delimiters.Equals ∷ [])
unfolding read element_at word_at reserved numeral_at value_in_range label_at comment_at delimiter_at
assignment_first = refl

comment_to_the_line_s_end : kinds_of (codes "a--b\nc") ≡ Some (name (codes "A") ∷ name (codes "C") ∷ [])
unfolding read element_at word_at reserved numeral_at value_in_range label_at comment_at delimiter_at
comment_to_the_line_s_end = refl

comment_to_the_text_s_end : kinds_of (codes "a -- the end") ≡ Some (name (codes "A") ∷ [])
unfolding read element_at word_at reserved numeral_at value_in_range label_at comment_at delimiter_at
comment_to_the_text_s_end = refl

empty_comment : kinds_of (codes "--") ≡ Some []
unfolding read element_at word_at reserved numeral_at value_in_range label_at comment_at delimiter_at
empty_comment = refl

any_byte_from_128_in_a_comment : kinds_of (codes "-- caf" ++ 195 ∷ 169 ∷ 32 ∷ 255 ∷ codes "\n- -")
    ≡ Some (mark delimiters.Minus ∷ mark delimiters.Minus ∷ [])
unfolding read element_at word_at reserved numeral_at value_in_range label_at comment_at delimiter_at
any_byte_from_128_in_a_comment = refl

simple_delimiters : kinds_of (codes "( ) , ; : . ' + - * / = < > |")
    ≡ Some (mark delimiters.LeftParenthesis ∷ mark delimiters.RightParenthesis ∷ mark delimiters.Comma ∷ mark delimiters.Semicolon ∷
    mark delimiters.Colon ∷ mark delimiters.Dot ∷ mark delimiters.Apostrophe ∷ mark delimiters.Plus ∷ mark delimiters.Minus ∷
    mark delimiters.Asterisk ∷ mark delimiters.Slash ∷ mark delimiters.Equals ∷ mark delimiters.LessThan ∷
    mark delimiters.GreaterThan ∷ mark delimiters.VerticalLine ∷ [])
unfolding read element_at word_at reserved numeral_at value_in_range label_at comment_at delimiter_at
simple_delimiters = refl

compound_delimiters : kinds_of (codes "=>..:=/=<=>=")
    ≡ Some (mark delimiters.Arrow ∷ mark delimiters.DoubleDot ∷ mark delimiters.Assignment ∷ mark delimiters.Inequality ∷
    mark delimiters.LessOrEqual ∷ mark delimiters.GreaterOrEqual ∷ [])
unfolding read element_at word_at reserved numeral_at value_in_range label_at comment_at delimiter_at
compound_delimiters = refl

longest_name : kinds_of (codes "Abcdefghijklmnopqrstuvwxyz_0123456789_xy") ≡ Some (name (codes "ABCDEFGHIJKLMNOPQRSTUVWXYZ_0123456789_XY") ∷ [])
unfolding read element_at word_at reserved numeral_at value_in_range label_at comment_at delimiter_at
longest_name = refl

longer_name : kinds_of (codes "Abcdefghijklmnopqrstuvwxyz_0123456789_xyz") ≡ None
unfolding read element_at word_at reserved numeral_at value_in_range label_at comment_at delimiter_at
longer_name = refl

greatest_literal : kinds_of (codes "9223372036854775807") ≡ Some (number 9223372036854775807 ∷ [])
unfolding read element_at word_at reserved numeral_at value_in_range label_at comment_at delimiter_at
greatest_literal = refl

zeros_in_front : kinds_of (codes "00000000000000000000000000009_223_372_036_854_775_807") ≡ Some (number 9223372036854775807 ∷ [])
unfolding read element_at word_at reserved numeral_at value_in_range label_at comment_at delimiter_at
zeros_in_front = refl

labels_side_by_side : kinds_of (codes "\"a\"\"~!\"x") ≡ Some (label (codes "a") ∷ label (codes "~!") ∷ name (codes "X") ∷ [])
unfolding read element_at word_at reserved numeral_at value_in_range label_at comment_at delimiter_at
labels_side_by_side = refl

longest_label : kinds_of (codes "\"1234567890123456789012345678901234567890\"") ≡ Some (label (codes "1234567890123456789012345678901234567890") ∷ [])
unfolding read element_at word_at reserved numeral_at value_in_range label_at comment_at delimiter_at
longest_label = refl

longer_label : kinds_of (codes "\"12345678901234567890123456789012345678901\"") ≡ None
unfolding read element_at word_at reserved numeral_at value_in_range label_at comment_at delimiter_at
longer_label = refl

main : kinds_of (codes "procedure M is begin null; end M;")
    ≡ Some (word words.Procedure ∷ name (codes "M") ∷ word words.Is ∷ word words.Begin ∷ word words.Null ∷ mark delimiters.Semicolon ∷
    word words.End ∷ name (codes "M") ∷ mark delimiters.Semicolon ∷ [])
unfolding read element_at word_at reserved numeral_at value_in_range label_at comment_at delimiter_at
main = refl

reserved_words : kinds_of (codes "aBORT Abs aBsTrAcT accEPT access aliased all and array at begin body case constant declare delay delta digits "
    ++ codes "do else elsif end entry exception exit for function generic goto if in interface is limited loop mod new not "
    ++ codes "null of or others out overriding package pragma private procedure protected raise range record REM renames "
    ++ codes "requeue return reverse select separate some subtype synchronized tagged task terminate then type until use "
    ++ codes "when WHILE with xOR")
    ≡ Some (word words.Abort ∷ word words.Abs ∷ word words.Abstract ∷ word words.Accept ∷ word words.Access ∷ word words.Aliased ∷
    word words.All ∷ word words.And ∷ word words.Array ∷ word words.At ∷ word words.Begin ∷ word words.Body ∷ word words.Case ∷
    word words.Constant ∷ word words.Declare ∷ word words.Delay ∷ word words.Delta ∷ word words.Digits ∷ word words.Do ∷
    word words.Else ∷ word words.Elsif ∷ word words.End ∷ word words.Entry ∷ word words.Exception ∷ word words.Exit ∷
    word words.For ∷ word words.Function ∷ word words.Generic ∷ word words.Goto ∷ word words.If ∷ word words.In ∷
    word words.Interface ∷ word words.Is ∷ word words.Limited ∷ word words.Loop ∷ word words.Mod ∷ word words.New ∷ word words.Not ∷
    word words.Null ∷ word words.Of ∷ word words.Or ∷ word words.Others ∷ word words.Out ∷ word words.Overriding ∷
    word words.Package ∷ word words.Pragma ∷ word words.Private ∷ word words.Procedure ∷ word words.Protected ∷ word words.Raise ∷
    word words.Range ∷ word words.Record ∷ word words.Rem ∷ word words.Renames ∷ word words.Requeue ∷ word words.Return ∷
    word words.Reverse ∷ word words.Select ∷ word words.Separate ∷ word words.Some ∷ word words.Subtype ∷ word words.Synchronized ∷
    word words.Tagged ∷ word words.Task ∷ word words.Terminate ∷ word words.Then ∷ word words.Type ∷ word words.Until ∷
    word words.Use ∷ word words.When ∷ word words.While ∷ word words.With ∷ word words.Xor ∷ [])
unfolding read element_at word_at reserved numeral_at value_in_range label_at comment_at delimiter_at
reserved_words = refl

places_of_tokens : read 20 0 (codes " ab:=--x\n\"cd\" 12;") ≡ Some (
    record { kind = name (codes "AB"); start = 1; end_ = 3 }
    ∷ record { kind = mark delimiters.Assignment; start = 3; end_ = 5 }
    ∷ record { kind = label (codes "cd"); start = 9; end_ = 13 }
    ∷ record { kind = number 12; start = 14; end_ = 16 }
    ∷ record { kind = mark delimiters.Semicolon; start = 16; end_ = 17 }
    ∷ [])
unfolding read element_at word_at reserved numeral_at value_in_range label_at comment_at delimiter_at
places_of_tokens = refl
