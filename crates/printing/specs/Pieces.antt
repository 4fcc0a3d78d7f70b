-- The pieces of a text: its tokens and its comments, each with the white space before it.
use Rattle.std.specs.Prelude.{ℕ, ◌==◌, List, [], ◌∷◌, ◌++◌, length, filter, nat_eq, if◌then◌else◌, Option, Some, None}
use Rattle.std.specs.Char.{is_ascii_whitespace}
use Rattle.lexer.specs.declared.token.Token.{Token}
use Rattle.lexer.specs.declared.token.TokenKind.{TokenKind}
use Rattle.lexer.specs.Characters.{line_feed}
use Rattle.lexer.specs.Elements.{comment}
use Rattle.lexer.specs.Spelling.{Row, Here, White, Comment, Lexeme, Spells}

-- a character before the rest of a text, left out where it is white space and nothing follows
abbrev pub before_end : ℕ → List ℕ → List ℕ
before_end c [] = if is_ascii_whitespace c then [] else c ∷ []
before_end c (d ∷ text) = c ∷ d ∷ text

-- a text without the white space at its end
abbrev pub trimmed : List ℕ → List ℕ
trimmed [] = []
trimmed (c ∷ text) = before_end c (trimmed text)

-- a token, or a comment
pub record Content : Type 0 where
  -- None for a comment
  pub kind : Option TokenKind
  -- its characters, as the text spells them; of a comment without the white space at its end
  pub element : List ℕ

-- the tokens and comments of a text, in their order
abbrev pub contents : {place : ℕ} {left : List ℕ} {at : ℕ} {text : List ℕ} {tokens : List Token} → Row place left at text tokens → List Content
contents Here = []
contents (White is row) = contents row
contents (Comment inner parts longest characters row) = record { kind = None; element = comment (trimmed inner) } ∷ contents row
contents (Lexeme element kind parts longest is row) = record { kind = Some kind; element = element } ∷ contents row

-- a token or a comment, and what surrounds it
pub record TextPiece : Type 0 where
  pub content : Content
  -- the white space between what precedes it, or the start of the text, and it
  pub white : List ℕ
  -- the kind of the first token after it, if there is one
  pub next : Option TokenKind

abbrev pub first_kind : List Token → Option TokenKind
first_kind [] = None
first_kind (token ∷ tokens) = Some token.kind

-- the pieces of a text, before which there is this white space
abbrev pub pieces_after : {place : ℕ} {left : List ℕ} {at : ℕ} {text : List ℕ} {tokens : List Token} → List ℕ → Row place left at text tokens → List TextPiece
pieces_after white Here = []
pieces_after white (White {c = c} is row) = pieces_after (white ++ c ∷ []) row
pieces_after white (Comment {tokens = tokens} inner parts longest characters row) =
    record { content = record { kind = None; element = comment (trimmed inner) }; white = white; next = first_kind tokens } ∷ pieces_after [] row
pieces_after white (Lexeme {tokens = tokens} element kind parts longest is row) =
    record { content = record { kind = Some kind; element = element }; white = white; next = first_kind tokens } ∷ pieces_after [] row

-- the pieces of a text that these tokens spell
abbrev pub pieces : {text : List ℕ} {tokens : List Token} → Spells text tokens → List TextPiece
pieces spells = pieces_after [] spells.row

-- how many line feeds white space has
abbrev pub line_feeds : List ℕ → ℕ
line_feeds white = length (filter (λ c. c == line_feed) white)

-- the first of the tokens, if it begins at a place
abbrev pub token_at : (place : ℕ) → List Token → Option Token
token_at place [] = None
token_at place (token ∷ tokens) = if nat_eq token.start place then Some token else None
