-- When a token mends a text between two parts of its tokens.
use Rattle.std.specs.Prelude.{ℕ, Bool, true, false, ◌∷◌, ◌++◌, length, nat_lt, take}
use Rattle.lexer.specs.declared.token.TokenKind.{TokenKind}
use Rattle.ada_tree.specs.Language.{Tokens}
use Rattle.parser.specs.Parsing.{SomeBegins}
use Rattle.diagnostics.specs.continuations.Following.{CanEnd, sample}

-- some tree derives what begins with these tokens; or just these, if they are the whole text
abbrev pub Continues : (is_whole : Bool) → Tokens → Type 0
Continues true ts = CanEnd ts
Continues false ts = SomeBegins ts

-- With a token of this kind after the first part, the text goes on with so many tokens of the second one; where it has fewer, some tree derives the text.
abbrev pub Mends : (front : Tokens) → TokenKind → (after : Tokens) → (far : ℕ) → Type 0
Mends front kind after far = Continues (nat_lt (length after) far) (front ++ (sample kind ∷ take far after))
