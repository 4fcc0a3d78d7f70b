-- What is read at the front of a text, by its first characters. The code computes this, and it is proved to agree with Spelling: it defines nothing that a
-- reader has to believe.
use Rattle.std.specs.Prelude.{ℕ, ◌+◌, ◌*◌, ◌-◌, pos, if◌then◌else◌, not, ◌&&◌, ◌==◌, nat_lt, nat_le, List, [], ◌∷◌, take, drop, find, bytes_eq, Option, Some, None, Result, Ok, Err}
use Rattle.std.specs.List.{list_all, prefix_len}
use Rattle.std.specs.Char.{is_ascii_alphabetic, is_ascii_digit}
use Rattle.lexer.specs.declared.token.Token.{Token}
use Rattle.lexer.specs.declared.token.TokenKind.{TokenKind}
use Rattle.lexer.specs.declared.token.TokenKind.TheVariants as kinds
use Rattle.lexer.specs.declared.word.Word.{Word}
use Rattle.lexer.specs.declared.word.Word.TheVariants as words
use Rattle.lexer.specs.declared.delimiter.Delimiter.{Delimiter}
use Rattle.lexer.specs.declared.delimiter.Delimiter.TheVariants as delimiters
use Rattle.lexer.specs.declared.element.Compound.{Compound}
use Rattle.lexer.specs.declared.element.Compound.TheVariants as compounds
use Rattle.lexer.specs.declared.element.Element.{Element}
use Rattle.lexer.specs.declared.element.Broken.{Broken}
use Rattle.lexer.specs.declared.fault.Fault.{Fault}
use Rattle.base.specs.declared.faults.TheConstants.{TEXT_TOO_LONG, STRAY_CHARACTER, WRONG_IDENTIFIER, WRONG_LITERAL, WRONG_LABEL}
use Rattle.base.specs.declared.limits.TheConstants.{TEXT_LIMIT, NAME_LIMIT, LABEL_LIMIT}
use Rattle.lexer.specs.Limits.{number_limit}
use Rattle.lexer.specs.Characters.{is_quotation_mark, is_hyphen, is_word_character, is_numeral_character, runs_on, is_white, stays_on_line, is_comment_character, is_string_character, is_label_character, begins}
use Rattle.lexer.specs.Words.{spelling}
use Rattle.lexer.specs.Elements.{has_single_underlines, value, upper_case}

abbrev pub Reading : Type 0
Reading = Result Element Broken

abbrev pub broken : ℕ → Reading
broken number = Err (record { number = number; offset = 0 })

-- the reserved words that begin with this letter
abbrev pub words_with : ℕ → List Word
words_with c =
    if c == 65 then words.Abort ∷ words.Abs ∷ words.Abstract ∷ words.Accept ∷ words.Access ∷ words.Aliased ∷ words.All ∷ words.And ∷ words.Array ∷ words.At ∷ []
    else (if c == 66 then words.Begin ∷ words.Body ∷ []
    else (if c == 67 then words.Case ∷ words.Constant ∷ []
    else (if c == 68 then words.Declare ∷ words.Delay ∷ words.Delta ∷ words.Digits ∷ words.Do ∷ []
    else (if c == 69 then words.Else ∷ words.Elsif ∷ words.End ∷ words.Entry ∷ words.Exception ∷ words.Exit ∷ []
    else (if c == 70 then words.For ∷ words.Function ∷ []
    else (if c == 71 then words.Generic ∷ words.Goto ∷ []
    else (if c == 73 then words.If ∷ words.In ∷ words.Interface ∷ words.Is ∷ []
    else (if c == 76 then words.Limited ∷ words.Loop ∷ []
    else (if c == 77 then words.Mod ∷ []
    else (if c == 78 then words.New ∷ words.Not ∷ words.Null ∷ []
    else (if c == 79 then words.Of ∷ words.Or ∷ words.Others ∷ words.Out ∷ words.Overriding ∷ []
    else (if c == 80 then words.Package ∷ words.Pragma ∷ words.Private ∷ words.Procedure ∷ words.Protected ∷ []
    else (if c == 82 then words.Raise ∷ words.Range ∷ words.Record ∷ words.Rem ∷ words.Renames ∷ words.Requeue ∷ words.Return ∷ words.Reverse ∷ []
    else (if c == 83 then words.Select ∷ words.Separate ∷ words.Some ∷ words.Subtype ∷ words.Synchronized ∷ []
    else (if c == 84 then words.Tagged ∷ words.Task ∷ words.Terminate ∷ words.Then ∷ words.Type ∷ []
    else (if c == 85 then words.Until ∷ words.Use ∷ []
    else (if c == 87 then words.When ∷ words.While ∷ words.With ∷ []
    else (if c == 88 then words.Xor ∷ []
    else ([])))))))))))))))))))

-- the reserved word of this name
unfoldable pub reserved : List ℕ → Option Word
reserved [] = None
reserved (c ∷ name) = find (λ word. bytes_eq (spelling word) (c ∷ name)) (words_with c)

abbrev pub kind_or : List ℕ → Option Word → TokenKind
kind_or name None = kinds.Identifier name
kind_or name (Some word) = kinds.Word word

abbrev pub token : TokenKind → ℕ → Reading
token kind length = Ok (record { kind = Some kind; length = length })

-- an identifier or a reserved word
unfoldable pub word_at : List ℕ → Reading
word_at text =
    let length = prefix_len is_word_character text in
    let name = upper_case (take length text) in
    if has_single_underlines (take length text) && nat_le length NAME_LIMIT then token (kind_or name (reserved name)) length else broken WRONG_IDENTIFIER

-- the value of a numeral whose first digits have the value n
abbrev pub value_from : ℕ → List ℕ → ℕ
value_from n [] = n
value_from n (c ∷ text) = value_from (if is_ascii_digit c then 10 * n + (c - 48) else n) text

-- the value, where it is small enough
unfoldable pub value_in_range : List ℕ → Option ℕ
value_in_range text = if nat_lt (value text) number_limit then Some (value text) else None

abbrev pub number_or : ℕ → Option ℕ → Reading
number_or length None = broken WRONG_LITERAL
number_or length (Some number) = token (kinds.Number (pos number)) length

unfoldable pub numeral_at : List ℕ → Reading
numeral_at text =
    let length = prefix_len is_numeral_character text in
    if has_single_underlines (take length text) && not (begins runs_on (drop length text))
    then number_or length (value_in_range (take length text))
    else broken WRONG_LITERAL

-- a label, whose text begins behind the first quotation mark
unfoldable pub label_at : List ℕ → Reading
label_at text =
    let length = prefix_len is_string_character text in
    if begins is_quotation_mark (drop length text) && list_all is_label_character (take length text) && nat_lt 0 length && nat_le length LABEL_LIMIT
    then token (kinds.Label (take length text)) (length + 2)
    else broken WRONG_LABEL

-- a comment, whose text begins behind the hyphens
unfoldable pub comment_at : List ℕ → Reading
comment_at text =
    let length = prefix_len is_comment_character text in
    if begins stays_on_line (drop length text)
    then Err (record { number = STRAY_CHARACTER; offset = length + 2 })
    else Ok (record { kind = None; length = length + 2 })

abbrev pub compound_of : ℕ → ℕ → Option Compound
compound_of c d =
    if c == 42 then (if d == 42 then Some compounds.LeftOut else None)
    else (if c == 46 then (if d == 46 then Some (compounds.Delimiter delimiters.DoubleDot) else None)
    else (if c == 47 then (if d == 61 then Some (compounds.Delimiter delimiters.Inequality) else None)
    else (if c == 58 then (if d == 61 then Some (compounds.Delimiter delimiters.Assignment) else None)
    else (if c == 60 then (if d == 60 then Some compounds.LeftOut else
    (if d == 61 then Some (compounds.Delimiter delimiters.LessOrEqual) else (if d == 62 then Some compounds.LeftOut else None)))
    else (if c == 61 then (if d == 62 then Some (compounds.Delimiter delimiters.Arrow) else None)
    else (if c == 62 then (if d == 61 then Some (compounds.Delimiter delimiters.GreaterOrEqual) else (if d == 62 then Some compounds.LeftOut else None))
    else None))))))

abbrev pub simple_of : ℕ → Option Delimiter
simple_of c =
    if c == 39 then Some delimiters.Apostrophe
    else (if c == 40 then Some delimiters.LeftParenthesis
    else (if c == 41 then Some delimiters.RightParenthesis
    else (if c == 42 then Some delimiters.Asterisk
    else (if c == 43 then Some delimiters.Plus
    else (if c == 44 then Some delimiters.Comma
    else (if c == 45 then Some delimiters.Minus
    else (if c == 46 then Some delimiters.Dot
    else (if c == 47 then Some delimiters.Slash
    else (if c == 58 then Some delimiters.Colon
    else (if c == 59 then Some delimiters.Semicolon
    else (if c == 60 then Some delimiters.LessThan
    else (if c == 61 then Some delimiters.Equals
    else (if c == 62 then Some delimiters.GreaterThan
    else (if c == 124 then Some delimiters.VerticalLine
    else None))))))))))))))

abbrev pub compound_at : ℕ → List ℕ → Option Compound
compound_at c [] = None
compound_at c (d ∷ rest) = compound_of c d

abbrev pub simple_or : Option Delimiter → Reading
simple_or None = broken STRAY_CHARACTER
simple_or (Some delimiter) = token (kinds.Delimiter delimiter) 1

abbrev pub compound_or : ℕ → Option Compound → Reading
compound_or c None = simple_or (simple_of c)
compound_or c (Some (compounds.Delimiter delimiter)) = token (kinds.Delimiter delimiter) 2
compound_or c (Some compounds.LeftOut) = broken STRAY_CHARACTER

-- a delimiter, with what is behind its first character
unfoldable pub delimiter_at : ℕ → List ℕ → Reading
delimiter_at c rest = compound_or c (compound_at c rest)

-- what stands at the front of a text
unfoldable pub element_at : List ℕ → Reading
element_at [] = broken STRAY_CHARACTER
element_at (c ∷ rest) =
    if is_white c then Ok (record { kind = None; length = 1 })
    else (if is_ascii_alphabetic c then word_at (c ∷ rest)
    else (if is_ascii_digit c then numeral_at (c ∷ rest)
    else (if is_quotation_mark c then label_at rest
    else (if is_hyphen c && begins is_hyphen rest then comment_at (drop 1 rest)
    else delimiter_at c rest))))

-- the fault of a rule that is broken at a place, where the text is no longer than it may be up to there
abbrev pub fault_at : ℕ → ℕ → Fault
fault_at number place = if nat_lt place TEXT_LIMIT then record { number = number; place = place } else record { number = TEXT_TOO_LONG; place = TEXT_LIMIT }

abbrev pub token_list : Option TokenKind → ℕ → ℕ → List Token
token_list None start end_ = []
token_list (Some kind) start end_ = record { kind = kind; start = start; end_ = end_ } ∷ []

-- the token of an element that begins at an offset, if it is one
abbrev pub tokens_of : ℕ → Element → List Token
tokens_of at element = token_list element.kind at (at + element.length)
