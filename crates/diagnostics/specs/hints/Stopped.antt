-- Reporting where the code of a program passes a limit of images.
use Rattle.std.specs.Prelude.{ℕ, List, [], ◌++◌, Option, Some, None, codes, decimal}
use Rattle.base.specs.declared.limits.TheConstants.{FRAME_WORDS, INSTRUCTIONS, ROWS}
use Rattle.ada_tree.specs.Language.{Tokens}
use Rattle.diagnostics.specs.hints.Places.{name_at, place_text}

abbrev pub or_nameless : Option (List ℕ) → List ℕ
or_nameless (Some name) = name
or_nameless None = []

-- the name that stands at a place, and its line and column
abbrev pub named_place : (text : List ℕ) → Tokens → (place : ℕ) → List ℕ
named_place text tokens place = or_nameless (name_at place tokens) ++ codes " at " ++ place_text text place

-- after an empty line: the code of the body whose name stands there, with so many instructions before it
abbrev pub instructions_line : (text : List ℕ) → Tokens → (place before : ℕ) → List ℕ
instructions_line text tokens place before =
    codes "\nthe code of " ++ named_place text tokens place ++ codes " passes a limit: there may be more than " ++ decimal INSTRUCTIONS
    ++ codes " instructions with the " ++ decimal before ++ codes " before it\n"

-- the frame and the operand stack of the body whose name stands there
abbrev pub frame_line : (text : List ℕ) → Tokens → (place : ℕ) → List ℕ
frame_line text tokens place =
    codes "\nthe code of " ++ named_place text tokens place ++ codes " passes a limit: its frame and its operand stack may need more than "
    ++ decimal FRAME_WORDS ++ codes " words\n"

-- the handlers up to the end of what has its name there, which have so many choices
abbrev pub rows_line : (text : List ℕ) → Tokens → (place rows : ℕ) → List ℕ
rows_line text tokens place rows =
    codes "\nthe handlers up to the end of " ++ named_place text tokens place ++ codes " pass a limit: they have " ++ decimal rows
    ++ codes " choices, and an image has at most " ++ decimal ROWS ++ codes " rows of handlers\n"
