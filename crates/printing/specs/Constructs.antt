-- What is open at a place of a text, and so how far a line is indented.
use Rattle.std.specs.Prelude.{ℕ, ◌+◌, ◌-◌, ◌*◌, min, Bool, true, false, List, [], ◌∷◌, ◌++◌, length, take, filter, slice_get, Option, Some, None}
use Rattle.lexer.specs.declared.token.TokenKind.{TokenKind}
use Rattle.lexer.specs.declared.token.TokenKind.TheVariants as kinds
use Rattle.lexer.specs.declared.word.Word.{Word}
use Rattle.lexer.specs.declared.word.Word.TheVariants as words
use Rattle.lexer.specs.declared.delimiter.Delimiter.TheVariants as delimiters
use Rattle.printing.specs.declared.symbol.Symbol.{Symbol}
use Rattle.printing.specs.declared.symbol.Symbol.TheVariants as symbols
use Rattle.printing.specs.declared.construct.Construct.{Construct}
use Rattle.printing.specs.declared.construct.Construct.TheVariants as constructs
use Rattle.printing.specs.declared.construct.Phrase.{Phrase}
use Rattle.printing.specs.declared.construct.Phrase.TheVariants as phrases
use Rattle.printing.specs.declared.construct.TheConstants.{DEEPEST_LEVEL}

-- a token without its name, value or label
abbrev pub symbol_of : TokenKind → Symbol
symbol_of (kinds.Identifier name) = symbols.Identifier
symbol_of (kinds.Word word) = symbols.Word word
symbol_of (kinds.Number number) = symbols.Number
symbol_of (kinds.Label text) = symbols.Label
symbol_of (kinds.Delimiter delimiter) = symbols.Delimiter delimiter

-- what was opened last of what is open
abbrev pub innermost : List Construct → Option Construct
innermost cs = slice_get cs (length cs - 1)

abbrev pub if_declarations : Option Construct → ℕ
if_declarations (Some constructs.Declarations) = 1
if_declarations inner = 0

abbrev pub if_alternative : Option Construct → ℕ
if_alternative (Some constructs.Alternative) = 1
if_alternative inner = 0

-- how many of the innermost constructs a word closes that begins a phrase
abbrev pub closed_by_word : Word → Option Construct → ℕ
closed_by_word words.Begin inner = if_declarations inner
closed_by_word words.When inner = if_alternative inner
closed_by_word words.End inner = 1 + if_alternative inner
closed_by_word words.Else inner = 1
closed_by_word words.Elsif inner = 1
closed_by_word words.Exception inner = 1
closed_by_word words.Or inner = 1
closed_by_word words.Private inner = 1
closed_by_word word inner = 0

-- what such a word opens
abbrev pub opened_by_word : Word → Option Construct
opened_by_word words.Begin = Some constructs.Statements
opened_by_word words.Else = Some constructs.Statements
opened_by_word words.Loop = Some constructs.Statements
opened_by_word words.Or = Some constructs.Statements
opened_by_word words.Select = Some constructs.Statements
opened_by_word words.Declare = Some constructs.Declarations
opened_by_word words.Private = Some constructs.Declarations
opened_by_word words.Exception = Some constructs.Alternatives
opened_by_word word = None

-- the phrase that such a word begins
abbrev pub phrase_of_word : Word → Phrase
phrase_of_word words.If = phrases.Condition
phrase_of_word words.Elsif = phrases.Condition
phrase_of_word words.Case = phrases.Selector
phrase_of_word words.When = phrases.Choices
phrase_of_word words.For = phrases.Iteration
phrase_of_word words.While = phrases.Iteration
phrase_of_word words.Type = phrases.Type
phrase_of_word words.Subtype = phrases.Type
phrase_of_word word = phrases.Other

-- `then` after `and` belongs to an operator
abbrev pub opened_by_then : Option Symbol → Option Construct
opened_by_then (Some (symbols.Word words.And)) = None
opened_by_then previous = Some constructs.Statements

-- what a token opens within a phrase, after another token of it
abbrev pub opened_in : Phrase → Option Symbol → Symbol → Option Construct
opened_in phrases.Condition previous (symbols.Word words.Then) = opened_by_then previous
opened_in phrases.Selector previous (symbols.Word words.Is) = Some constructs.Alternatives
opened_in phrases.Choices previous (symbols.Delimiter delimiters.Arrow) = Some constructs.Alternative
opened_in phrases.Iteration previous (symbols.Word words.Loop) = Some constructs.Statements
opened_in phrases.Type previous (symbols.Word words.Record) = Some constructs.Components
opened_in phrases.Other previous (symbols.Word words.Is) = Some constructs.Declarations
opened_in phrase previous symbol = None

abbrev pub opened_at_start : Symbol → Option Construct
opened_at_start (symbols.Word word) = opened_by_word word
opened_at_start symbol = None

abbrev pub opened_in_phrase : Phrase → Option Symbol → Symbol → Option Construct
opened_in_phrase phrases.Start previous symbol = opened_at_start symbol
opened_in_phrase phrase previous symbol = opened_in phrase previous symbol

-- within parentheses nothing but another one is opened
abbrev pub opened_outside : Option Construct → Phrase → Option Symbol → Symbol → Option Construct
opened_outside (Some constructs.Parenthesis) phrase previous symbol = None
opened_outside inner phrase previous symbol = opened_in_phrase phrase previous symbol

-- what a token opens
abbrev pub opened : Option Construct → Phrase → Option Symbol → Symbol → Option Construct
opened inner phrase previous (symbols.Delimiter delimiters.LeftParenthesis) = Some constructs.Parenthesis
opened inner phrase previous symbol = opened_outside inner phrase previous symbol

abbrev pub if_closing : Symbol → ℕ
if_closing (symbols.Delimiter delimiters.RightParenthesis) = 1
if_closing symbol = 0

abbrev pub closed_at_start : Symbol → Option Construct → ℕ
closed_at_start (symbols.Word word) inner = closed_by_word word inner
closed_at_start symbol inner = 0

abbrev pub closed_in_phrase : Phrase → Symbol → Option Construct → ℕ
closed_in_phrase phrases.Start symbol inner = closed_at_start symbol inner
closed_in_phrase phrase symbol inner = 0

-- how many of the innermost constructs a token closes
abbrev pub closed : Option Construct → Phrase → Symbol → ℕ
closed (Some constructs.Parenthesis) phrase symbol = if_closing symbol
closed inner phrase symbol = closed_in_phrase phrase symbol inner

abbrev pub phrase_from : Symbol → Phrase
phrase_from (symbols.Word word) = phrase_of_word word
phrase_from symbol = phrases.Other

-- the phrase after a token that opens nothing
abbrev pub phrase_on : Phrase → Symbol → Phrase
phrase_on phrase (symbols.Delimiter delimiters.Semicolon) = phrases.Start
phrase_on phrases.Start symbol = phrase_from symbol
phrase_on phrase symbol = phrase

-- the phrase after a token that opens this
abbrev pub phrase_with : Option Construct → Phrase → Symbol → Phrase
phrase_with (Some constructs.Parenthesis) phrase symbol = phrase_on phrase symbol
phrase_with (Some construct) phrase symbol = phrases.Start
phrase_with None phrase symbol = phrase_on phrase symbol

-- the phrase after a token: within parentheses it stays
abbrev pub phrase_after : Option Construct → Phrase → Option Symbol → Symbol → Phrase
phrase_after (Some constructs.Parenthesis) phrase previous symbol = phrase
phrase_after inner phrase previous symbol = phrase_with (opened inner phrase previous symbol) phrase symbol

abbrev pub indents : Construct → Bool
indents constructs.Parenthesis = false
indents construct = true

abbrev pub levels : List Construct → ℕ
levels cs = length (filter indents cs)

-- the columns before a line within these
abbrev pub columns_within : List Construct → ℕ
columns_within cs = 3 * min (levels cs) DEEPEST_LEVEL

-- what stays open where a token closes so many of them
abbrev pub without : ℕ → List Construct → List Construct
without count cs = take (length cs - count) cs

abbrev pub with_opened : Option Construct → List Construct → List Construct
with_opened None cs = cs
with_opened (Some construct) cs = cs ++ construct ∷ []

-- further columns of a line that continues a phrase: none where its first token opens what the phrase begins, as `is`, `then` and `loop` do
abbrev pub continued : Option Construct → Phrase → ℕ
continued inner phrases.Start = 0
continued (Some constructs.Parenthesis) phrase = 2
continued (Some construct) phrase = 0
continued None phrase = 2
