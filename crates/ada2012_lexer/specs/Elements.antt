-- The lexical element at the front of a text (RM 2.2): the longest, by its first characters.
use Rattle.std.specs.Prelude.{ℕ, ◌+◌, ◌-◌, Bool, true, false, not, ◌&&◌, if◌then◌else◌, nat_le, List, [], ◌∷◌, take, drop, length, Option, Some, None, Result, Ok, Err}
use Rattle.std.specs.List.{prefix_len}
use Rattle.std.specs.Char.{is_ascii_alphabetic, is_ascii_digit}
use Rattle.base.specs.declared.limits.TheConstants.{NAME_LIMIT}
use Rattle.lexer.specs.Characters.{begins, is_hyphen, is_quotation_mark, is_word_character}
use Rattle.lexer.specs.Elements.{has_single_underlines, upper_case}
use Rattle.lexer.specs.declared.word.Word.{Word}
use Rattle.lexer.specs.declared.word.Word.TheVariants as words
use Rattle.ada2012_lexer.specs.declared.delimiter.Delimiter.{Delimiter}
use Rattle.ada2012_lexer.specs.declared.delimiter.Delimiter.TheVariants as delimiters
use Rattle.ada2012_lexer.specs.declared.element.Broken.{Broken}
use Rattle.ada2012_lexer.specs.declared.element.Element.{Element}
use Rattle.ada2012_lexer.specs.declared.element.ElementKind.TheVariants as elements
use Rattle.ada2012_lexer.specs.declared.fault.FaultKind.{FaultKind}
use Rattle.ada2012_lexer.specs.declared.fault.FaultKind.TheVariants as faults
use Rattle.ada2012_lexer.specs.declared.token.TokenKind.{TokenKind}
use Rattle.ada2012_lexer.specs.declared.token.TokenKind.TheVariants as kinds
use Rattle.ada2012_lexer.specs.Characters.{is_apostrophe, is_separator, stays_on_line}
use Rattle.ada2012_lexer.specs.Delimiters.{compound_at, simple_at}
use Rattle.ada2012_lexer.specs.Numbers.{Literal, literal_at, value_of}
use Rattle.ada2012_lexer.specs.Quoted.{closes_character, string_end}
use Rattle.ada2012_lexer.specs.Words.{word_of}

-- the element at the front of a text, or what is wrong there, so many characters from its front
abbrev pub ElementReading : Type 0
ElementReading = Result Element Broken

abbrev pub broken : FaultKind → ElementReading
broken kind = Err (record { kind = kind; offset = 0 })

abbrev pub token : TokenKind → ℕ → ElementReading
token kind length = Ok (record { kind = elements.Token kind; length = length })

-- ---- identifiers and reserved words (RM 2.3, 2.9)

abbrev pub name_kind : (name : List ℕ) → Option Word → TokenKind
name_kind name None = kinds.Identifier name
name_kind name (Some word) = kinds.Word word

-- a letter, and all letters, digits and underlines after it
unfoldable pub name_at : List ℕ → ElementReading
name_at text =
    let length = prefix_len is_word_character text in
    let name = upper_case (take length text) in
    if not (has_single_underlines (take length text)) then broken faults.IdentifierUnderline
    else (if not (nat_le length NAME_LIMIT) then broken faults.LongIdentifier
    else token (name_kind name (word_of name)) length)

-- ---- numeric literals (RM 2.4)

abbrev pub number_kind : Literal → TokenKind
number_kind literal = if literal.real then kinds.Real else kinds.Integer (value_of literal)

abbrev pub number_read : (text : List ℕ) → Result (Literal × List ℕ) FaultKind → ElementReading
number_read text (Err kind) = broken kind
number_read text (Ok read) = token (number_kind read.0) (length text - length read.1)

unfoldable pub number_at : List ℕ → ElementReading
number_at text = number_read text (literal_at text)

-- ---- string literals (RM 2.6), after the first quotation mark

-- at a place that no string may hold: the end of the line, or a character
abbrev pub not_in_string : ℕ → List ℕ → ElementReading
not_in_string at rest = if begins stays_on_line rest then Err (record { kind = faults.StrayCharacter; offset = at + 1 }) else broken faults.OpenString

abbrev pub string_read : (text : List ℕ) → Result ℕ ℕ → ElementReading
string_read text (Ok at) = token kinds.StringLiteral (at + 1)
string_read text (Err at) = not_in_string at (drop at text)

unfoldable pub string_at : List ℕ → ElementReading
string_at text = string_read text (string_end true 0 text)

-- ---- character literals (RM 2.5), after the first apostrophe

abbrev pub character_at : List ℕ → ElementReading
character_at [] = broken faults.OpenCharacter
character_at (c ∷ text) = if closes_character (c ∷ text) then token (kinds.Character c) 3 else broken faults.OpenCharacter

-- ---- comments (RM 2.7), after the hyphens: all up to the line's end

abbrev pub comment_at : List ℕ → ElementReading
comment_at text = Ok (record { kind = elements.Comment; length = prefix_len stays_on_line text + 2 })

-- ---- delimiters (RM 2.2)

abbrev pub simple_read : Option Delimiter → ElementReading
simple_read None = broken faults.StrayCharacter
simple_read (Some delimiter) = token (kinds.Delimiter delimiter) 1

abbrev pub compound_read : (text : List ℕ) → Option Delimiter → ElementReading
compound_read text None = simple_read (simple_at text)
compound_read text (Some delimiter) = token (kinds.Delimiter delimiter) 2

unfoldable pub delimiter_at : List ℕ → ElementReading
delimiter_at text = compound_read text (compound_at text)

-- ---- all of them

-- An apostrophe after such a token is a delimiter, the tick of an attribute or of a qualified expression; after any other one it begins a character literal.
abbrev pub allows_tick : TokenKind → Bool
allows_tick (kinds.Identifier name) = true
allows_tick (kinds.Word words.All) = true
allows_tick (kinds.Word word) = false
allows_tick (kinds.Integer value) = false
allows_tick kinds.Real = false
allows_tick (kinds.Character c) = true
allows_tick kinds.StringLiteral = true
allows_tick (kinds.Delimiter delimiters.RightParenthesis) = true
allows_tick (kinds.Delimiter delimiter) = false

-- the element at the front of a text, after a token that allows a tick or one that doesn't
unfoldable pub element_at : (tick : Bool) → List ℕ → ElementReading
element_at tick [] = broken faults.StrayCharacter
element_at tick (c ∷ text) =
    if is_separator c then Ok (record { kind = elements.Separator; length = 1 })
    else (if is_ascii_alphabetic c then name_at (c ∷ text)
    else (if is_ascii_digit c then number_at (c ∷ text)
    else (if is_quotation_mark c then string_at text
    else (if is_hyphen c && begins is_hyphen text then comment_at (drop 1 text)
    else (if is_apostrophe c && not tick then character_at text
    else delimiter_at (c ∷ text))))))
