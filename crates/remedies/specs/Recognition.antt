-- Which construct stands at the place of a fault: the one of the first row that fits the tokens around it (src/grammar_rows.rt, name_rows.rt, rule_rows.rt).
use Rattle.std.specs.Prelude.{ℕ, zero, suc, ◌-◌, ◌&&◌, ◌||◌, Bool, true, false, List, [], ◌∷◌, bytes_eq, drop, if◌then◌else◌, length, nat_eq, nat_lt, option_map, Option, Some, None, slice_get, take}
use denote.Enum.Bare.{sameb}
use Rattle.base.specs.declared.faults.TheConstants.{NAME_NOT_VISIBLE, UNEXPECTED_TOKEN}
use Rattle.lexer.specs.declared.token.Token.{Token}
use Rattle.lexer.specs.declared.token.TokenKind.{TokenKind}
use Rattle.lexer.specs.declared.token.TokenKind.TheVariants as kinds
use Rattle.lexer.specs.declared.word.Word.TheVariants as words
use Rattle.lexer.specs.contracts.delimiter.Delimiter as delimiter_type
use Rattle.lexer.specs.contracts.word.Word as word_type
use Rattle.remedies.specs.contracts.opening.Opened as opened_type
use Rattle.remedies.specs.declared.construct.Construct.{Construct}
use Rattle.remedies.specs.declared.grammar_rows.TheConstants.{GRAMMAR_ROWS}
use Rattle.remedies.specs.declared.name_rows.TheConstants.{NAME_ROWS}
use Rattle.remedies.specs.declared.opening.Opened.{Opened}
use Rattle.remedies.specs.declared.opening.Opened.TheVariants as opened
use Rattle.remedies.specs.declared.opening.Opening.{Opening}
use Rattle.remedies.specs.declared.row.Part.{Part}
use Rattle.remedies.specs.declared.row.Part.TheVariants as parts
use Rattle.remedies.specs.declared.row.Region.{Region}
use Rattle.remedies.specs.declared.row.Region.TheVariants as regions
use Rattle.remedies.specs.declared.row.Row.{Row}
use Rattle.remedies.specs.declared.rule_rows.TheConstants.{RULE_ROWS}
use Rattle.remedies.specs.Names.{name_text}
use Rattle.remedies.specs.Openings.{open_after}

-- what a row asks of a token, or of a place where there is none
abbrev pub is_part : Part → Option TokenKind → Bool
is_part parts.Any k = true
is_part parts.Nothing None = true
is_part parts.Identifier (Some (kinds.Identifier name)) = true
is_part (parts.Named n) (Some (kinds.Identifier name)) = bytes_eq name (name_text n)
is_part parts.Number (Some (kinds.Number value)) = true
is_part parts.Label (Some (kinds.Label text)) = true
is_part (parts.Mark d) (Some (kinds.Delimiter e)) = sameb delimiter_type.the_type e d
is_part (parts.Reserved w) (Some (kinds.Word v)) = sameb word_type.the_type v w
is_part p k = false

abbrev pub are_statements : Opened → Bool
are_statements opened.Statements = true
are_statements opened.Block = true
are_statements opened.If = true
are_statements opened.Case = true
are_statements opened.Loop = true
are_statements o = false

abbrev pub are_declarations : Opened → Bool
are_declarations opened.Declarations = true
are_declarations opened.Declare = true
are_declarations o = false

abbrev pub is_in : Region → Option Opening → Bool
is_in regions.Anywhere o = true
is_in regions.Outside None = true
is_in (regions.Within p) (Some o) = sameb opened_type.the_type o.opened p
is_in regions.AmongStatements (Some o) = are_statements o.opened
is_in regions.AmongDeclarations (Some o) = are_declarations o.opened
is_in region o = false

-- the kind of the token with so many before it
abbrev pub kind_at : ℕ → List Token → Option TokenKind
kind_at n ts = option_map (λ (t : Token). t.kind) (slice_get ts n)

-- the kind of the token with so many after it
abbrev pub kind_from_end : ℕ → List Token → Option TokenKind
kind_from_end n ts = if nat_lt n (length ts) then kind_at (length ts - 1 - n) ts else None

-- the kind of the token before the one that opened this
abbrev pub kind_before_opener : Option Opening → List Token → Option TokenKind
kind_before_opener (Some o) ts = if nat_lt 0 o.before then kind_at (o.before - 1) ts else None
kind_before_opener None ts = None

-- a fault of this number between two parts of a text's tokens, by the tokens next to it alone
abbrev pub fits_tokens : Row → (fault : ℕ) → (front back : List Token) → Bool
fits_tokens r fault front back =
    nat_eq r.fault fault
    && is_part r.third_last (kind_from_end 2 front) && is_part r.second_last (kind_from_end 1 front) && is_part r.last (kind_from_end 0 front)
    && is_part r.here (kind_at 0 back) && is_part r.second (kind_at 1 back) && is_part r.third (kind_at 2 back)

-- a fault of this number between two parts of a text's tokens, where this is open
abbrev pub fits : Row → (fault : ℕ) → (front back : List Token) → Option Opening → Bool
fits r fault front back o = fits_tokens r fault front back && is_in r.region o && is_part r.opener (kind_before_opener o front)

abbrev pub first_fitting : List Row → (fault : ℕ) → (front back : List Token) → Option Opening → Option Construct
first_fitting [] fault front back o = None
first_fitting (r ∷ rows) fault front back o = if fits r fault front back o then Some r.construct else first_fitting rows fault front back o

-- how many tokens begin before a place
abbrev pub count_before : ℕ → List Token → ℕ
count_before place [] = zero
count_before place (t ∷ ts) = if nat_lt t.start place then suc (count_before place ts) else zero

abbrev pub is_end : Option TokenKind → Bool
is_end (Some (kinds.Word words.End)) = true
is_end k = false

-- the tokens but for an `end` that is the last one: after it stands what it closes
abbrev pub without_end : List Token → List Token
without_end ts = if is_end (kind_from_end 0 ts) then take (length ts - 1) ts else ts

-- what is open after these tokens, or is to be closed by the `end` that is their last one
abbrev pub open_at : (front : List Token) → Option Opening
open_at front = open_after (without_end front)

unfoldable pub grammar_between : (fault : ℕ) → (front back : List Token) → Option Construct
grammar_between fault front back = first_fitting GRAMMAR_ROWS fault front back (open_at front)

unfoldable pub name_between : (fault : ℕ) → (front back : List Token) → Option Construct
name_between fault front back = first_fitting NAME_ROWS fault front back (open_at front)

unfoldable pub rule_between : (fault : ℕ) → (front back : List Token) → Option Construct
rule_between fault front back = first_fitting RULE_ROWS fault front back (open_at front)

-- by the rows of the grammar's fault, of that of names, or of all others
abbrev pub construct_between : (fault : ℕ) → (front back : List Token) → Option Construct
construct_between fault front back =
    if nat_eq fault UNEXPECTED_TOKEN then grammar_between fault front back
    else (if nat_eq fault NAME_NOT_VISIBLE then name_between fault front back else rule_between fault front back)

-- at the place of a fault of this number in a text of these tokens
abbrev pub construct_at : (fault place : ℕ) → List Token → Option Construct
construct_at fault place ts = construct_between fault (take (count_before place ts) ts) (drop (count_before place ts) ts)

abbrev pub is_missing : Option TokenKind → Bool
is_missing None = true
is_missing (Some k) = false

-- with these words the declarations and bodies of a package, and clauses, begin
abbrev pub begins_unit : Option TokenKind → Bool
begins_unit (Some (kinds.Word words.Procedure)) = true
begins_unit (Some (kinds.Word words.Function)) = true
begins_unit (Some (kinds.Word words.Task)) = true
begins_unit (Some (kinds.Word words.Protected)) = true
begins_unit (Some (kinds.Word words.Package)) = true
begins_unit (Some (kinds.Word words.With)) = true
begins_unit k = false

-- An `end` stands before the place, the text ends there, or what stands there can't be among statements: so an `end` is wrong or missing.
abbrev pub wants_end : (front back : List Token) → Option Opening → Bool
wants_end front back o = is_end (kind_from_end 0 front) || is_missing (kind_at 0 back) || (is_in regions.AmongStatements o && begins_unit (kind_at 0 back))

abbrev pub unclosed_between : (front back : List Token) → Option Opening
unclosed_between front back = if wants_end front back (open_at front) then open_at front else None

-- what is open at the place, where an `end` of it is wrong or missing there
abbrev pub unclosed_at : (place : ℕ) → List Token → Option Opening
unclosed_at place ts = unclosed_between (take (count_before place ts) ts) (drop (count_before place ts) ts)
