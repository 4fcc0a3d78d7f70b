-- How many actual parameters a call has, and how many formal ones what it calls (RM 6.4), by the tokens of the text.
use Rattle.std.specs.Prelude.{ℕ, suc, ◌-◌, ◌&&◌, Bool, false, List, [], ◌∷◌, ◌++◌, Option, Some, None, codes, decimal, drop, if◌then◌else◌, length, nat_eq, slice_get}
use denote.Enum.Bare.{sameb}
use Rattle.lexer.specs.contracts.delimiter.Delimiter as delimiter_type
use Rattle.lexer.specs.declared.delimiter.Delimiter.{Delimiter}
use Rattle.lexer.specs.declared.delimiter.Delimiter.TheVariants as delimiters
use Rattle.lexer.specs.declared.token.TokenKind.{TokenKind}
use Rattle.lexer.specs.declared.token.TokenKind.TheVariants as kinds
use Rattle.ada_tree.specs.Language.{Tokens}
use Rattle.remedies.specs.Likeness.{first_where, introduces_same, name_of}
use Rattle.remedies.specs.Recognition.{count_before, kind_at}
use Rattle.diagnostics.specs.hints.Places.{name_or_none, place_text, start_of}

abbrev pub is_mark : Delimiter → TokenKind → Bool
is_mark d (kinds.Delimiter e) = sameb delimiter_type.the_type e d
is_mark d k = false

abbrev pub is_mark_next : Delimiter → Option TokenKind → Bool
is_mark_next d (Some k) = is_mark d k
is_mark_next d None = false

-- so many, and one more for each separator up to the parenthesis that closes; within so many further ones separators don't count
abbrev pub count_listed : (separator : Delimiter) → (depth count : ℕ) → Tokens → ℕ
count_listed s depth count [] = count
count_listed s depth count (t ∷ ts) =
    if is_mark delimiters.LeftParenthesis t.kind then count_listed s (suc depth) count ts
    else (if is_mark delimiters.RightParenthesis t.kind then (if nat_eq depth 0 then count else count_listed s (depth - 1) count ts)
    else count_listed s depth (if nat_eq depth 0 && is_mark s t.kind then suc count else count) ts)

-- how many the parentheses list with which the tokens begin; none where they begin with something else
abbrev pub count_parenthesized : (separator : Delimiter) → Tokens → ℕ
count_parenthesized s [] = 0
count_parenthesized s (t ∷ ts) = if is_mark delimiters.LeftParenthesis t.kind then count_listed s 0 1 ts else 0

-- which token is the name of what is called, where this one begins the call: after a dot that of an operation
abbrev pub called_number : ℕ → Tokens → ℕ
called_number first ts = if is_mark_next delimiters.Dot (kind_at (suc first) ts) then suc (suc first) else first

-- the first token from a number on that is the name, and introduced by a word
abbrev pub introduced : Option (List ℕ) → Tokens → (from : ℕ) → Option ℕ
introduced (Some name) ts from = first_where (introduces_same name ts) from (length ts - from)
introduced None ts from = None

abbrev pub or_zero : Option ℕ → ℕ
or_zero (Some n) = n
or_zero None = 0

-- from where on the declaration is looked for: that of an operation from the object on
abbrev pub declared_from : (first called : ℕ) → Tokens → ℕ
declared_from first called ts = if nat_eq first called then 0 else or_zero (introduced (name_of (kind_at first ts)) ts 0)

abbrev pub declared_number : (first called : ℕ) → Tokens → Option ℕ
declared_number first called ts = introduced (name_of (kind_at called ts)) ts (declared_from first called ts)

unfoldable pub actuals_part : ℕ → List ℕ
actuals_part count = codes "hint: actual parameters in this call: " ++ decimal count ++ codes "; formal ones of "

unfoldable pub formals_part : (text name : List ℕ) → (place count : ℕ) → List ℕ
formals_part text name place count = name ++ codes " at " ++ place_text text place ++ codes ": " ++ decimal count ++ codes "\n"

abbrev pub call_lines : (text : List ℕ) → Tokens → (called : ℕ) → (declared : Option ℕ) → List ℕ
call_lines text ts called (Some n) =
    actuals_part (count_parenthesized delimiters.Comma (drop (suc called) ts))
    ++ formals_part text (name_or_none (name_of (kind_at n ts))) (start_of (slice_get ts n)) (count_parenthesized delimiters.Semicolon (drop (suc n) ts))
call_lines text ts called None = []

abbrev pub call_lines_from : (text : List ℕ) → Tokens → (first : ℕ) → List ℕ
call_lines_from text ts first = call_lines text ts (called_number first ts) (declared_number first (called_number first ts) ts)

-- of the call that begins at a place
abbrev pub call_lines_at : (text : List ℕ) → Tokens → (place : ℕ) → List ℕ
call_lines_at text ts place = call_lines_from text ts (count_before place ts)
