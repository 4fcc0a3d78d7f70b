-- The delimiters (RM 2.2).
use Rattle.std.specs.Prelude.{ℕ, List, codes}
use Rattle.lexer.specs.declared.delimiter.Delimiter.{Delimiter}
use Rattle.lexer.specs.declared.delimiter.Delimiter.TheVariants as delimiters

-- the characters of a delimiter
abbrev pub delimiter_text : Delimiter → List ℕ
delimiter_text delimiters.LeftParenthesis = codes "("
delimiter_text delimiters.RightParenthesis = codes ")"
delimiter_text delimiters.Comma = codes ","
delimiter_text delimiters.Semicolon = codes ";"
delimiter_text delimiters.Colon = codes ":"
delimiter_text delimiters.Dot = codes "."
delimiter_text delimiters.Apostrophe = codes "'"
delimiter_text delimiters.Plus = codes "+"
delimiter_text delimiters.Minus = codes "-"
delimiter_text delimiters.Asterisk = codes "*"
delimiter_text delimiters.Slash = codes "/"
delimiter_text delimiters.Equals = codes "="
delimiter_text delimiters.LessThan = codes "<"
delimiter_text delimiters.GreaterThan = codes ">"
delimiter_text delimiters.VerticalLine = codes "|"
delimiter_text delimiters.Arrow = codes "=>"
delimiter_text delimiters.DoubleDot = codes ".."
delimiter_text delimiters.Assignment = codes ":="
delimiter_text delimiters.Inequality = codes "/="
delimiter_text delimiters.LessOrEqual = codes "<="
delimiter_text delimiters.GreaterOrEqual = codes ">="

-- the compound delimiters of the standard that this language leaves out
pub data Excluded : Type 0 where
  DoubleStar : Excluded
  LeftLabelBracket : Excluded
  RightLabelBracket : Excluded
  Box : Excluded

abbrev pub excluded_text : Excluded → List ℕ
excluded_text DoubleStar = codes "**"
excluded_text LeftLabelBracket = codes "<<"
excluded_text RightLabelBracket = codes ">>"
excluded_text Box = codes "<>"
