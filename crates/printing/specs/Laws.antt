-- What is the same in a text and in its layout.
use Rattle.std.specs.Prelude.{◌≡◌, ℕ, ◌≤◌, List, length, map}
use Rattle.base.specs.declared.limits.TheConstants.{TEXT_LIMIT}
use Rattle.lexer.specs.declared.token.Token.{Token}
use Rattle.lexer.specs.Spelling.{Spells}
use Rattle.printing.specs.Pieces.{contents}
use Rattle.printing.specs.Layout.{formatted}

-- The text is spelled by tokens of the same kinds and characters, with the same comments between them, but for white space at the ends of comments.
pub record HasContents {text : List ℕ} {tokens : List Token} (spells : Spells text tokens) (other : List ℕ) : Type 0 where
  pub others : List Token
  pub respelled : Spells other others
  pub same : contents respelled.row ≡ contents spells.row
  pub kinds : map (λ token. token.kind) others ≡ map (λ token. token.kind) tokens

-- The layout of a text has the same tokens and comments, in the same order.
abbrev pub KeepsContents : Type 0
KeepsContents = (text : List ℕ) (tokens : List Token) (spells : Spells text tokens)
    → length (formatted spells) ≤ TEXT_LIMIT → HasContents spells (formatted spells)

-- The layout of what is laid out is that itself.
abbrev pub IsStable : Type 0
IsStable = (text : List ℕ) (tokens : List Token) (spells : Spells text tokens) (others : List Token) (respelled : Spells (formatted spells) others)
    → formatted respelled ≡ formatted spells
