-- Which tokens spell a text (RM 2), and which rules a text breaks.
use Rattle.std.specs.Prelude.{◌≡◌, ℕ, ◌+◌, ◌<◌, ◌≤◌, List, [], ◌∷◌, ◌++◌, length, IsTrue, IsFalse, ◌⊎◌, Result, Ok, Err}
use Rattle.std.specs.Global.{Vec}
use Rattle.std.specs.List.{list_all}
use Rattle.lexer.specs.declared.token.Token.{Token}
use Rattle.lexer.specs.declared.token.TokenKind.{TokenKind}
use Rattle.lexer.specs.declared.fault.Fault.{Fault}
use Rattle.lexer.specs.Fault.{memory_fault}
use Rattle.base.specs.declared.faults.TheConstants.{TEXT_TOO_LONG, STRAY_CHARACTER, WRONG_IDENTIFIER, WRONG_LITERAL, WRONG_LABEL}
use Rattle.base.specs.declared.limits.TheConstants.{TEXT_LIMIT, NAME_LIMIT, LABEL_LIMIT}
use Rattle.lexer.specs.Limits.{number_limit}
use Rattle.lexer.specs.Characters.{quotation_mark, is_white, stays_on_line, is_string_character, is_comment_character, is_label_character, runs_on, begins}
use Rattle.lexer.specs.Delimiters.{Excluded, excluded_text}
use Rattle.lexer.specs.Elements.{is_word, is_numeral, has_single_underlines, value, quoted, comment, IsElement, IsLongest, IsToken}

-- The text from the offset `at` on is a row of white space, comments and these tokens up to the offset `place`, from where on `left` stands.
pub data Row (place : ℕ) (left : List ℕ) : ℕ → List ℕ → List Token → Type 0 where
  Here : Row place left place left []
  White : {at c : ℕ} {rest : List ℕ} {tokens : List Token} → IsTrue (is_white c) → Row place left (at + 1) rest tokens → Row place left at (c ∷ rest) tokens
  Comment : {at : ℕ} {text rest : List ℕ} {tokens : List Token} (inner : List ℕ) → text ≡ comment inner ++ rest → IsLongest (comment inner) rest
      → IsTrue (list_all is_comment_character inner)
      → Row place left (at + length (comment inner)) rest tokens → Row place left at text tokens
  Lexeme : {at : ℕ} {text rest : List ℕ} {tokens : List Token} (element : List ℕ) (kind : TokenKind) → text ≡ element ++ rest → IsLongest element rest
      → IsToken kind element rest
      → Row place left (at + length element) rest tokens → Row place left at text (record { kind = kind; start = at; end_ = at + length element } ∷ tokens)

-- The tokens spell the text.
pub record Spells (text : List ℕ) (tokens : List Token) : Type 0 where
  pub short : length text ≤ TEXT_LIMIT
  pub row : Row (length text) [] 0 text tokens

-- What stands at the front of `text`, where a token, white space or a comment would begin, breaks the rule of this number, `offset` bytes from there.
pub data Breaks : (number offset : ℕ) → (text : List ℕ) → Type 0 where
  -- a character that begins nothing
  Stray : (c : ℕ) (rest : List ℕ) → IsFalse (is_white c) → (c ≡ quotation_mark → ⊥)
      → ((element others : List ℕ) → c ∷ rest ≡ element ++ others → IsElement element → ⊥) → Breaks STRAY_CHARACTER 0 (c ∷ rest)
  -- a compound delimiter that the language leaves out
  LeftOut : (e : Excluded) (rest : List ℕ) → Breaks STRAY_CHARACTER 0 (excluded_text e ++ rest)
  -- a character that no comment may hold
  InComment : (inner : List ℕ) (c : ℕ) (rest : List ℕ) → IsTrue (list_all is_comment_character inner) → IsFalse (is_comment_character c)
      → IsTrue (stays_on_line c) → Breaks STRAY_CHARACTER (length (comment inner)) (comment inner ++ (c ∷ rest))
  -- an identifier with a doubled or final underline, or of too many characters
  Identifier : (element rest : List ℕ) → IsLongest element rest → IsTrue (is_word element) → IsFalse (has_single_underlines element)
      ⊎ (NAME_LIMIT < length element) → Breaks WRONG_IDENTIFIER 0 (element ++ rest)
  -- a literal with an underline not between digits, too large, or followed at once by a letter or a number sign
  Literal : (element rest : List ℕ) → IsLongest element rest → IsTrue (is_numeral element) → IsFalse (has_single_underlines element)
      ⊎ (number_limit ≤ value element) ⊎ IsTrue (begins runs_on rest) → Breaks WRONG_LITERAL 0 (element ++ rest)
  -- a label that is not closed on its line
  Open : (inner rest : List ℕ) → IsTrue (list_all is_string_character inner) → IsFalse (begins stays_on_line rest)
      → Breaks WRONG_LABEL 0 (quotation_mark ∷ (inner ++ rest))
  -- a label that is closed, but with a wrong character, or with none or too many
  Label : (inner rest : List ℕ) → IsTrue (list_all is_string_character inner) → IsFalse (list_all is_label_character inner) ⊎ (length inner ≡ 0)
      ⊎ (LABEL_LIMIT < length inner) → Breaks WRONG_LABEL 0 (quoted inner ++ rest)

-- The fault names a rule that the text breaks, and the place where it does, below the limit.
pub data IsBroken (text : List ℕ) : Fault → Type 0 where
  TooLong : TEXT_LIMIT < length text → IsBroken text (record { number = TEXT_TOO_LONG; place = TEXT_LIMIT })
  At : {place offset number : ℕ} {left : List ℕ} {tokens : List Token} → Row place left 0 text tokens → Breaks number offset left
      → place + offset < TEXT_LIMIT → IsBroken text (record { number = number; place = place + offset })

-- Memory was refused for a token: the text begins with a row of white space, comments and tokens, of which there is one at least.
pub record IsRefusedForMemory (text : List ℕ) (fault : Fault) : Type 0 where
  pub memory : fault ≡ memory_fault
  pub place : ℕ
  pub left : List ℕ
  pub tokens : List Token
  pub row : Row place left 0 text tokens
  pub some : 0 < length tokens

-- These tokens are given, unless memory was refused.
abbrev pub Gave : Result (Vec Token) Fault → List Token → Type 0
Gave (Ok given) tokens = given.items ≡ tokens
Gave (Err fault) tokens = fault ≡ memory_fault

-- The answer names this fault, or one at an earlier place, unless memory was refused.
abbrev pub NamesAtLatest : Result (Vec Token) Fault → Fault → Type 0
NamesAtLatest (Ok given) fault = ⊥
NamesAtLatest (Err named) fault = (named ≡ memory_fault) ⊎ (named.place < fault.place) ⊎ (named ≡ fault)

-- A text is spelled by one list at most.
abbrev pub SpelledOnce : Type 0
SpelledOnce = (text : List ℕ) (tokens others : List Token) → Spells text tokens → Spells text others → tokens ≡ others

-- The spans of the tokens lie behind one another between two offsets, and none is empty.
abbrev pub AreInOrder : (from to : ℕ) → List Token → Type 0
AreInOrder from to [] = from ≤ to
AreInOrder from to (token ∷ tokens) = (from ≤ token.start) × (token.start < token.end_) × AreInOrder token.end_ to tokens

abbrev pub SpellsInOrder : Type 0
SpellsInOrder = (text : List ℕ) (tokens : List Token) → Spells text tokens → AreInOrder 0 (length text) tokens
