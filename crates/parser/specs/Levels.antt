-- The tokens that open a level.
use Rattle.std.specs.Prelude.{◌≡◌, ℕ, ◌≤◌, ◌+◌, Bool, true, false, [], ◌∷◌, ◌++◌, length, if◌then◌else◌}
use Rattle.lexer.specs.declared.token.TokenKind.{TokenKind}
use Rattle.lexer.specs.declared.token.TokenKind.TheVariants as kinds
use Rattle.lexer.specs.declared.word.Word.TheVariants as words
use Rattle.lexer.specs.declared.delimiter.Delimiter.TheVariants as marks
use Rattle.ada_tree.specs.Language.{Tokens}
use Rattle.parser.specs.Reading.{first, is_next}

abbrev pub opens : TokenKind → Bool
opens (kinds.Delimiter marks.LeftParenthesis) = true
opens (kinds.Word words.If) = true
opens (kinds.Word words.Case) = true
opens (kinds.Word words.Loop) = true
opens (kinds.Word words.While) = true
opens (kinds.Word words.For) = true
opens (kinds.Word words.Declare) = true
opens (kinds.Word words.Begin) = true
opens other = false

-- how many of them there are
abbrev pub openers : Tokens → ℕ
openers [] = 0
openers (t ∷ ts) = (if opens t.kind then 1 else 0) + openers ts

-- a token that opens a level stands where so many tokens are left, and k such tokens before it
abbrev pub IsDeep : ℕ → Tokens → ℕ → Type 0
IsDeep k ts left = (front : Tokens) × (back : Tokens) × (ts ≡ front ++ back) × (left ≡ length back) × (is_next opens (first back) ≡ true) × (k ≤ openers front)
