-- Places of a text, and how one is written.
use Rattle.std.specs.Prelude.{ℕ, suc, List, [], ◌∷◌, ◌++◌, Option, Some, None, codes, decimal, if◌then◌else◌, nat_eq, take}
use Rattle.lexer.specs.declared.token.Token.{Token}
use Rattle.lexer.specs.declared.token.TokenKind.{TokenKind}
use Rattle.lexer.specs.declared.token.TokenKind.TheVariants as kinds
use Rattle.ada_tree.specs.Language.{Tokens}

-- the line after the text, where it begins on this one
abbrev pub line_from : ℕ → List ℕ → ℕ
line_from line [] = line
line_from line (c ∷ rest) = line_from (if nat_eq c 10 then suc line else line) rest

-- the column after the text, where it begins in this one
abbrev pub column_from : ℕ → List ℕ → ℕ
column_from column [] = column
column_from column (c ∷ rest) = column_from (if nat_eq c 10 then 1 else suc column) rest

-- where the last line begins of a text that begins at this place, where the line that it begins on starts
abbrev pub line_start : (start at : ℕ) → List ℕ → ℕ
line_start start at [] = start
line_start start at (c ∷ rest) = line_start (if nat_eq c 10 then suc at else start) (suc at) rest

-- the line and the column of a place, both from 1 and in bytes
abbrev pub place_text : List ℕ → ℕ → List ℕ
place_text text place = decimal (line_from 1 (take place text)) ++ codes ":" ++ decimal (column_from 1 (take place text))

-- the line that gives the other place of a fault; nothing where there is none
abbrev pub other_line : List ℕ → Option ℕ → List ℕ
other_line text (Some place) = codes "the other one is at " ++ place_text text place ++ codes "\n"
other_line text None = []

-- an empty line, and after it these lines; nothing where there are none
abbrev pub after_empty : List ℕ → List ℕ
after_empty [] = []
after_empty (c ∷ lines) = 10 ∷ c ∷ lines

-- the name of the identifier that begins at the place, if one does
abbrev pub name_of_kind : TokenKind → Option (List ℕ)
name_of_kind (kinds.Identifier name) = Some name
name_of_kind kind = None

abbrev pub name_of_token : Option Token → Option (List ℕ)
name_of_token (Some t) = name_of_kind t.kind
name_of_token None = None

abbrev pub name_at : ℕ → Tokens → Option (List ℕ)
name_at place [] = None
name_at place (t ∷ tokens) = if nat_eq t.start place then name_of_kind t.kind else name_at place tokens

-- where the token with so many before it begins; 0 where there is none
abbrev pub start_of : Option Token → ℕ
start_of (Some t) = t.start
start_of None = 0

-- the name of an identifier; none of another token
abbrev pub name_or_none : Option (List ℕ) → List ℕ
name_or_none (Some name) = name
name_or_none None = []
