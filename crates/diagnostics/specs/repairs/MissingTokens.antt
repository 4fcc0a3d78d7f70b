-- A token that is missing at a place.
use Rattle.std.specs.Prelude.{◌≡◌, ◌≢◌, ◌⊎◌, ℕ, List, Option, Some, None, codes, drop, take}
use Rattle.base.specs.declared.faults.TheConstants.{UNEXPECTED_TOKEN}
use Rattle.lexer.specs.declared.delimiter.Delimiter.TheVariants as delimiters
use Rattle.lexer.specs.declared.token.TokenKind.{TokenKind}
use Rattle.lexer.specs.declared.token.TokenKind.TheVariants as kinds
use Rattle.lexer.specs.declared.word.Word.TheVariants as words
use Rattle.ada_tree.specs.Language.{Tokens}
use Rattle.remedies.specs.Recognition.{count_before}
use Rattle.diagnostics.specs.declared.repairs.missing.Missing.{Missing}
use Rattle.diagnostics.specs.declared.repairs.missing.Missing.TheVariants as missing
use Rattle.diagnostics.specs.declared.repairs.missing.TheConstants.{EACH_MISSING, FURTHER}
use Rattle.diagnostics.specs.repairs.First.{FirstOf}
use Rattle.diagnostics.specs.repairs.Mending.{Mends}

abbrev pub kind_of : Missing → TokenKind
kind_of missing.Semicolon = kinds.Delimiter delimiters.Semicolon
kind_of missing.RightParenthesis = kinds.Delimiter delimiters.RightParenthesis
kind_of missing.LeftParenthesis = kinds.Delimiter delimiters.LeftParenthesis
kind_of missing.Comma = kinds.Delimiter delimiters.Comma
kind_of missing.Colon = kinds.Delimiter delimiters.Colon
kind_of missing.Assignment = kinds.Delimiter delimiters.Assignment
kind_of missing.Arrow = kinds.Delimiter delimiters.Arrow
kind_of missing.Is = kinds.Word words.Is
kind_of missing.Then = kinds.Word words.Then
kind_of missing.Loop = kinds.Word words.Loop
kind_of missing.Begin = kinds.Word words.Begin
kind_of missing.Of = kinds.Word words.Of
kind_of missing.In = kinds.Word words.In
kind_of missing.Return = kinds.Word words.Return
kind_of missing.When = kinds.Word words.When
kind_of missing.Range = kinds.Word words.Range
kind_of missing.End = kinds.Word words.End

abbrev pub missing_text : Missing → List ℕ
missing_text missing.Semicolon = codes "`;` is missing before this."
missing_text missing.RightParenthesis = codes "`)` is missing before this."
missing_text missing.LeftParenthesis = codes "`(` is missing before this."
missing_text missing.Comma = codes "`,` is missing before this."
missing_text missing.Colon = codes "`:` is missing before this."
missing_text missing.Assignment = codes "`:=` is missing before this."
missing_text missing.Arrow = codes "`=>` is missing before this."
missing_text missing.Is = codes "`is` is missing before this."
missing_text missing.Then = codes "`then` is missing before this."
missing_text missing.Loop = codes "`loop` is missing before this."
missing_text missing.Begin = codes "`begin` is missing before this."
missing_text missing.Of = codes "`of` is missing before this."
missing_text missing.In = codes "`in` is missing before this."
missing_text missing.Return = codes "`return` is missing before this."
missing_text missing.When = codes "`when` is missing before this."
missing_text missing.Range = codes "`range` is missing before this."
missing_text missing.End = codes "`end` is missing before this."

-- the token, if it mends the text between both parts
abbrev pub IsThisOne : (front back : Tokens) → Missing → Option Missing → Type 0
IsThisOne front back m (Some found) = (found ≡ m) × Mends front (kind_of m) back FURTHER
IsThisOne front back m None = Mends front (kind_of m) back FURTHER → ⊥

-- before the token that has so many before it
abbrev pub IsMissingBefore : (count : ℕ) → Tokens → Option Missing → Type 0
IsMissingBefore count ts found = FirstOf (IsThisOne (take count ts) (drop count ts)) EACH_MISSING found

-- what is missing at a place where a token can't stand; nothing of other faults
abbrev pub IsMissingAt : (fault place : ℕ) → Tokens → Option Missing → Type 0
IsMissingAt fault place ts found =
    ((fault ≡ UNEXPECTED_TOKEN) × IsMissingBefore (count_before place ts) ts found) ⊎ ((fault ≢ UNEXPECTED_TOKEN) × (found ≡ None))
