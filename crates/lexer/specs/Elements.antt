-- Lexical elements (RM 2.2) and the tokens that they are.
use Rattle.std.specs.Prelude.{◌≡◌, ℕ, ◌+◌, ◌-◌, ◌*◌, ◌^◌, ◌<◌, ◌≤◌, pos, Bool, true, false, not, ◌&&◌, ◌||◌, List, [], ◌∷◌, ◌++◌, length, map, filter, IsTrue}
use Rattle.std.specs.List.{list_all}
use Rattle.std.specs.Char.{is_ascii_alphabetic, is_ascii_digit, to_ascii_uppercase}
use Rattle.lexer.specs.declared.token.TokenKind.{TokenKind}
use Rattle.lexer.specs.declared.token.TokenKind.TheVariants as kinds
use Rattle.lexer.specs.declared.word.Word.{Word}
use Rattle.lexer.specs.declared.delimiter.Delimiter.{Delimiter}
use Rattle.base.specs.declared.limits.TheConstants.{NAME_LIMIT, LABEL_LIMIT}
use Rattle.lexer.specs.Limits.{number_limit}
use Rattle.lexer.specs.Characters.{quotation_mark, hyphen, is_underline, is_word_character, is_numeral_character, runs_on, stays_on_line, is_string_character, is_label_character, begins}
use Rattle.lexer.specs.Words.{spelling}
use Rattle.lexer.specs.Delimiters.{delimiter_text, Excluded, excluded_text}

-- shaped like an identifier or a reserved word (RM 2.3): a letter, then letters, digits and underlines
abbrev pub is_word : List ℕ → Bool
is_word text = begins is_ascii_alphabetic text && list_all is_word_character text

-- shaped like a numeral (RM 2.4.1): a digit, then digits and underlines
abbrev pub is_numeral : List ℕ → Bool
is_numeral text = begins is_ascii_digit text && list_all is_numeral_character text

-- behind each underline stands another character, which is no underline
abbrev pub has_single_underlines : List ℕ → Bool
has_single_underlines [] = true
has_single_underlines (c ∷ text) = (not (is_underline c) || begins (λ d. not (is_underline d)) text) && has_single_underlines text

-- the text between quotation marks (RM 2.6)
abbrev pub quoted : List ℕ → List ℕ
quoted text = quotation_mark ∷ (text ++ quotation_mark ∷ [])

-- the text behind two hyphens (RM 2.7)
abbrev pub comment : List ℕ → List ℕ
comment text = hyphen ∷ hyphen ∷ text

-- a lexical element (RM 2.2) by its shape alone
pub data IsElement (text : List ℕ) : Type 0 where
  WordElement : IsTrue (is_word text) → IsElement text
  NumeralElement : IsTrue (is_numeral text) → IsElement text
  StringElement : (inner : List ℕ) → text ≡ quoted inner → IsTrue (list_all is_string_character inner) → IsElement text
  CommentElement : (inner : List ℕ) → text ≡ comment inner → IsTrue (list_all stays_on_line inner) → IsElement text
  DelimiterElement : (d : Delimiter) → text ≡ delimiter_text d → IsElement text
  ExcludedElement : (e : Excluded) → text ≡ excluded_text e → IsElement text

-- the text `element ++ rest` begins with this lexical element, and with no longer one
pub record IsLongest (element rest : List ℕ) : Type 0 where
  pub shape : IsElement element
  pub longest : (other others : List ℕ) → element ++ rest ≡ other ++ others → IsElement other → length other ≤ length element

-- the value of digits: each counts ten times as much as the one behind it
abbrev pub value_of_digits : List ℕ → ℕ
value_of_digits [] = 0
value_of_digits (c ∷ digits) = (c - 48) * 10 ^ length digits + value_of_digits digits

-- the value of a numeral, whose underlines mean nothing (RM 2.4.1)
abbrev pub value : List ℕ → ℕ
value text = value_of_digits (filter is_ascii_digit text)

-- an identifier or a reserved word as it has to be
pub record IsName (text : List ℕ) : Type 0 where
  pub shape : IsTrue (is_word text)
  pub underlines : IsTrue (has_single_underlines text)
  pub short : length text ≤ NAME_LIMIT

-- a numeral as it has to be, with what follows it
pub record IsNumber (text rest : List ℕ) : Type 0 where
  pub shape : IsTrue (is_numeral text)
  pub underlines : IsTrue (has_single_underlines text)
  pub in_range : value text < number_limit
  pub apart : begins runs_on rest ≡ false

-- the text of a label as it has to be
pub record IsLabel (text : List ℕ) : Type 0 where
  pub characters : IsTrue (list_all is_label_character text)
  pub some : 0 < length text
  pub short : length text ≤ LABEL_LIMIT

-- the letters in upper case
abbrev pub upper_case : List ℕ → List ℕ
upper_case text = map to_ascii_uppercase text

-- the lexical element, with `rest` behind it, is a token of this kind
abbrev pub IsToken : TokenKind → List ℕ → List ℕ → Type 0
IsToken (kinds.Identifier name) element rest = IsName element × (name ≡ upper_case element) × ((word : Word) → spelling word ≡ name → ⊥)
IsToken (kinds.Word word) element rest = IsName element × (spelling word ≡ upper_case element)
IsToken (kinds.Number number) element rest = IsNumber element rest × (number ≡ pos (value element))
IsToken (kinds.Label text) element rest = IsLabel text × (element ≡ quoted text)
IsToken (kinds.Delimiter delimiter) element rest = element ≡ delimiter_text delimiter
