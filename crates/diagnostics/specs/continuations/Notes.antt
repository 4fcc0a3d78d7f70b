-- What is reported of a place where a token cannot stand.
use Rattle.std.specs.Prelude.{◌≡◌, ◌&&◌, ◌||◌, ℕ, Bool, true, false, List, [], ◌∷◌, ◌++◌, flat_map, codes, length, nat_eq}
use Rattle.std.specs.List.{list_any}
use Rattle.std.specs.Str.{str_to_ascii_lowercase}
use Rattle.lexer.specs.Delimiters.{delimiter_text}
use Rattle.lexer.specs.Words.{spelling}
use Rattle.lexer.specs.declared.token.TokenKind.{TokenKind}
use Rattle.lexer.specs.declared.token.TokenKind.TheVariants as kinds
use Rattle.lexer.specs.declared.delimiter.Delimiter.TheVariants as delimiters
use Rattle.lexer.specs.declared.word.Word.TheVariants as words
use Rattle.ada_tree.specs.Language.{Tokens}
use Rattle.diagnostics.specs.continuations.Following.{AreTheAllowed}
use Rattle.diagnostics.specs.declared.continuations.continuation.Continuation.{Continuation}
use Rattle.diagnostics.specs.declared.continuations.continuation.Continuation.TheVariants.{Identifier, Number, Label, Delimiter, Word, End}

-- as the documents have what is written in a source
abbrev pub in_quotes : List ℕ → List ℕ
in_quotes text = codes "`" ++ text ++ codes "`"

abbrev pub name_of : Continuation → List ℕ
name_of Identifier = codes "an identifier"
name_of Number = codes "a number"
name_of Label = codes "a label in quotes"
name_of (Delimiter d) = in_quotes (delimiter_text d)
name_of (Word w) = in_quotes (str_to_ascii_lowercase (spelling w))
name_of End = codes "the end of the text"

abbrev pub more_of : Continuation → List ℕ
more_of c = codes ", " ++ name_of c

-- their names with commas between them
abbrev pub listed : List Continuation → List ℕ
listed [] = []
listed (c ∷ cs) = name_of c ++ flat_map more_of cs

abbrev pub could_line : List Continuation → List ℕ
could_line cs = codes "could stand here: " ++ listed cs ++ 10 ∷ []

abbrev pub is_identifier : Continuation → Bool
is_identifier Identifier = true
is_identifier c = false

abbrev pub line_of_kind : TokenKind → Bool → List ℕ
line_of_kind (kinds.Word w) true = in_quotes (str_to_ascii_lowercase (spelling w)) ++ codes " is a reserved word, and no identifier" ++ 10 ∷ []
line_of_kind kind could = []

-- what stands after a name that is declared, or is a statement
abbrev pub is_after_name : TokenKind → Bool
is_after_name (kinds.Delimiter delimiters.Colon) = true
is_after_name (kinds.Delimiter delimiters.Semicolon) = true
is_after_name (kinds.Word words.Is) = true
is_after_name kind = false

abbrev pub begins_after_name : Tokens → Bool
begins_after_name [] = false
begins_after_name (t ∷ back) = is_after_name t.kind

-- An identifier could stand in the place of a word, and nothing else could, or what follows the word is what follows a name.
abbrev pub is_meant_as_name : (after : Tokens) → List Continuation → Bool
is_meant_as_name after cs = list_any is_identifier cs && (nat_eq (length cs) 1 || begins_after_name after)

-- of a reserved word that is meant as a name
abbrev pub reserved_line : Tokens → List Continuation → List ℕ
reserved_line [] cs = []
reserved_line (t ∷ back) cs = line_of_kind t.kind (is_meant_as_name back cs)

abbrev pub notes_text : Tokens → List Continuation → List ℕ
notes_text back cs = 10 ∷ (could_line cs ++ reserved_line back cs)

-- what is reported of the place between these parts of a text's tokens
pub record AreNotesOfPlace (front back : Tokens) (text : List ℕ) : Type 0 where
  pub continuations : List Continuation
  pub allowed : AreTheAllowed front continuations
  pub text_is : text ≡ notes_text back continuations
