-- Which tokens of a line have a space between them.
use Rattle.std.specs.Prelude.{ℕ, max, Bool, true, false, ◌&&◌, ◌||◌, if◌then◌else◌, Option, Some, None}
use Rattle.lexer.specs.declared.delimiter.Delimiter.TheVariants as delimiters
use Rattle.printing.specs.declared.symbol.Symbol.{Symbol}
use Rattle.printing.specs.declared.symbol.Symbol.TheVariants as symbols

-- no space precedes it
abbrev pub joins_previous : Symbol → Bool
joins_previous (symbols.Delimiter delimiters.RightParenthesis) = true
joins_previous (symbols.Delimiter delimiters.Comma) = true
joins_previous (symbols.Delimiter delimiters.Semicolon) = true
joins_previous (symbols.Delimiter delimiters.Apostrophe) = true
joins_previous symbol = false

-- no space follows it
abbrev pub joins_next : Symbol → Bool
joins_next (symbols.Delimiter delimiters.LeftParenthesis) = true
joins_next (symbols.Delimiter delimiters.Apostrophe) = true
joins_next symbol = false

abbrev pub is_dot : Symbol → Bool
is_dot (symbols.Delimiter delimiters.Dot) = true
is_dot symbol = false

-- what a dot selects
abbrev pub is_selector : Symbol → Bool
is_selector symbols.Identifier = true
is_selector (symbols.Word word) = true
is_selector symbol = false

-- what may precede a dot
abbrev pub is_prefix : Symbol → Bool
is_prefix symbols.Identifier = true
is_prefix (symbols.Delimiter delimiters.RightParenthesis) = true
is_prefix symbol = false

abbrev pub is_sign : Symbol → Bool
is_sign (symbols.Delimiter delimiters.Plus) = true
is_sign (symbols.Delimiter delimiters.Minus) = true
is_sign symbol = false

-- what an operand ends with: after it `+` and `-` are binary
abbrev pub ends_operand : Symbol → Bool
ends_operand symbols.Identifier = true
ends_operand symbols.Number = true
ends_operand symbols.Label = true
ends_operand (symbols.Delimiter delimiters.RightParenthesis) = true
ends_operand symbol = false

-- what an operand begins with
abbrev pub begins_operand : Symbol → Bool
begins_operand symbols.Identifier = true
begins_operand symbols.Number = true
begins_operand (symbols.Delimiter delimiters.LeftParenthesis) = true
begins_operand symbol = false

-- a token after this one would be a unary sign
abbrev pub precedes_sign : Option Symbol → Bool
precedes_sign None = true
precedes_sign (Some previous) = if ends_operand previous then false else true

-- two tokens on one line have no space between them, the first of which is a unary sign or not
abbrev pub are_joined : (unary : Bool) → Symbol → Symbol → Bool
are_joined unary previous symbol =
    joins_previous symbol || joins_next previous || (is_dot previous && is_selector symbol) || (is_prefix previous && is_dot symbol)
    || (unary && is_sign previous && begins_operand symbol)

-- more than one space before it is kept
abbrev pub keeps_columns : Symbol → Bool
keeps_columns (symbols.Delimiter delimiters.Colon) = true
keeps_columns (symbols.Delimiter delimiters.Assignment) = true
keeps_columns (symbols.Delimiter delimiters.Arrow) = true
keeps_columns symbol = false

-- how many spaces are between a token and another one that follows it on its line, where the text had so many
abbrev pub spaces_between : (unary : Bool) → Option Symbol → Symbol → ℕ → ℕ
spaces_between unary None symbol spaces = 1
spaces_between unary (Some previous) symbol spaces = if are_joined unary previous symbol then 0 else (if keeps_columns symbol then max 1 spaces else 1)
