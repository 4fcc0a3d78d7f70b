-- The delimiters (RM 2.2).
use Rattle.std.specs.Prelude.{ℕ, List, [], ◌∷◌, codes, find, bytes_eq, Option, None}
use Rattle.ada2012_lexer.specs.declared.delimiter.Delimiter.{Delimiter}
use Rattle.ada2012_lexer.specs.declared.delimiter.Delimiter.TheVariants as delimiters

-- the characters of a delimiter
abbrev pub delimiter_text : Delimiter → List ℕ
delimiter_text delimiters.Arrow = codes "=>"
delimiter_text delimiters.DoubleDot = codes ".."
delimiter_text delimiters.DoubleStar = codes "**"
delimiter_text delimiters.Assignment = codes ":="
delimiter_text delimiters.Inequality = codes "/="
delimiter_text delimiters.GreaterOrEqual = codes ">="
delimiter_text delimiters.LessOrEqual = codes "<="
delimiter_text delimiters.LeftLabelBracket = codes "<<"
delimiter_text delimiters.RightLabelBracket = codes ">>"
delimiter_text delimiters.Box = codes "<>"
delimiter_text delimiters.Ampersand = codes "&"
delimiter_text delimiters.Apostrophe = codes "'"
delimiter_text delimiters.LeftParenthesis = codes "("
delimiter_text delimiters.RightParenthesis = codes ")"
delimiter_text delimiters.Asterisk = codes "*"
delimiter_text delimiters.Plus = codes "+"
delimiter_text delimiters.Comma = codes ","
delimiter_text delimiters.Minus = codes "-"
delimiter_text delimiters.Dot = codes "."
delimiter_text delimiters.Slash = codes "/"
delimiter_text delimiters.Colon = codes ":"
delimiter_text delimiters.Semicolon = codes ";"
delimiter_text delimiters.LessThan = codes "<"
delimiter_text delimiters.Equals = codes "="
delimiter_text delimiters.GreaterThan = codes ">"
delimiter_text delimiters.VerticalLine = codes "|"

-- those of two characters
abbrev pub compound : List Delimiter
compound =
    delimiters.Arrow ∷ delimiters.DoubleDot ∷ delimiters.DoubleStar ∷ delimiters.Assignment ∷ delimiters.Inequality
    ∷ delimiters.GreaterOrEqual ∷ delimiters.LessOrEqual ∷ delimiters.LeftLabelBracket ∷ delimiters.RightLabelBracket ∷ delimiters.Box ∷ []

-- those of one
abbrev pub simple : List Delimiter
simple =
    delimiters.Ampersand ∷ delimiters.Apostrophe ∷ delimiters.LeftParenthesis ∷ delimiters.RightParenthesis ∷ delimiters.Asterisk ∷ delimiters.Plus
    ∷ delimiters.Comma ∷ delimiters.Minus ∷ delimiters.Dot ∷ delimiters.Slash ∷ delimiters.Colon ∷ delimiters.Semicolon
    ∷ delimiters.LessThan ∷ delimiters.Equals ∷ delimiters.GreaterThan ∷ delimiters.VerticalLine ∷ []

-- the one of these that is this text
abbrev pub delimiter_of : List Delimiter → List ℕ → Option Delimiter
delimiter_of delimiters text = find (λ delimiter. bytes_eq (delimiter_text delimiter) text) delimiters

-- the compound one at the front of a text
abbrev pub compound_at : List ℕ → Option Delimiter
compound_at [] = None
compound_at (c ∷ []) = None
compound_at (c ∷ d ∷ rest) = delimiter_of compound (c ∷ d ∷ [])

-- the simple one at the front of a text
abbrev pub simple_at : List ℕ → Option Delimiter
simple_at [] = None
simple_at (c ∷ rest) = delimiter_of simple (c ∷ [])
