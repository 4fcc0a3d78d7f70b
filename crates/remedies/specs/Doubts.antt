-- What may be why an `end` doesn't close what it is meant to close: an `if` after `else`, which has an `end if` of its own, or the words of an `end` in one.
use Rattle.std.specs.Prelude.{ℕ, suc, ◌-◌, ◌&&◌, ◌||◌, Bool, true, false, List, bytes_eq, if◌then◌else◌, length, Option, Some, None}
use Rattle.lexer.specs.declared.token.Token.{Token}
use Rattle.lexer.specs.declared.token.TokenKind.{TokenKind}
use Rattle.lexer.specs.declared.token.TokenKind.TheVariants as kinds
use Rattle.lexer.specs.declared.word.Word.TheVariants as words
use Rattle.remedies.specs.declared.doubt.Doubt.{Doubt}
use Rattle.remedies.specs.declared.doubt.Doubt.TheVariants as doubts
use Rattle.remedies.specs.declared.name.Name.TheVariants as names
use Rattle.remedies.specs.Likeness.{first_where}
use Rattle.remedies.specs.Names.{name_text}
use Rattle.remedies.specs.Recognition.{kind_at}

abbrev pub is_else : Option TokenKind → Bool
is_else (Some (kinds.Word words.Else)) = true
is_else k = false

abbrev pub is_if : Option TokenKind → Bool
is_if (Some (kinds.Word words.If)) = true
is_if k = false

abbrev pub is_end_word : Option TokenKind → Bool
is_end_word (Some (kinds.Identifier name)) =
    bytes_eq name (name_text names.EndIf) || bytes_eq name (name_text names.EndLoop) || bytes_eq name (name_text names.EndCase)
is_end_word k = false

-- the token with so many before it is `else`, and the next one `if`
abbrev pub is_if_after_else : List Token → ℕ → Bool
is_if_after_else ts n = is_else (kind_at n ts) && is_if (kind_at (suc n) ts)

abbrev pub is_doubtful : List Token → ℕ → Bool
is_doubtful ts n = is_if_after_else ts n || is_end_word (kind_at n ts)

abbrev pub doubt_of : List Token → Option ℕ → Option Doubt
doubt_of ts (Some n) = Some (if is_end_word (kind_at n ts) then doubts.EndWord n else doubts.ElseIf n)
doubt_of ts None = None

-- the first of them from the token on that has so many before it
abbrev pub doubtful_from : ℕ → List Token → Option Doubt
doubtful_from n ts = doubt_of ts (first_where (is_doubtful ts) n (length ts - n))
