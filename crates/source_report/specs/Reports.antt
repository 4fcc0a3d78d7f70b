-- What is said of a place of a file, in the form by which editors find it.
use Rattle.std.specs.Prelude.{ℕ, suc, ◌-◌, List, [], ◌∷◌, ◌++◌, codes, decimal, drop, if◌then◌else◌, map, nat_eq}
use Rattle.diagnostics.specs.hints.Places.{place_text}
use Rattle.source_report.specs.Marked.{behind, first_line, marked_place, shown, up_to}

-- `FILE:LINE:COLUMN: `
abbrev pub place_heading : (file text : List ℕ) → (place : ℕ) → List ℕ
place_heading file text place = file ++ codes ":" ++ place_text text place ++ codes ": "

-- `FILE:LINE: `
abbrev pub line_heading : (file : List ℕ) → (line : ℕ) → List ℕ
line_heading file line = file ++ codes ":" ++ decimal line ++ codes ": "

-- the place and the words, then the line with a mark below the place
abbrev pub place_report : (file text : List ℕ) → (place : ℕ) → (words : List ℕ) → List ℕ
place_report file text place words = place_heading file text place ++ words ++ codes "\n" ++ marked_place text place

-- an explanation begins with the number and the title, an empty line, and the rule on one line
abbrev pub title_of : List ℕ → List ℕ
title_of explanation = up_to 10 (behind 32 explanation)

abbrev pub rule_in : List ℕ → List ℕ
rule_in explanation = up_to 10 (behind 10 (behind 10 explanation))

-- `error: TITLE: RULE [fault N]`
abbrev pub fault_words : (explanation : List ℕ) → (number : ℕ) → List ℕ
fault_words explanation number = codes "error: " ++ title_of explanation ++ codes ": " ++ rule_in explanation ++ codes " [fault " ++ decimal number ++ codes "]"

-- of a fault of a source at a place, with this explanation
abbrev pub source_report : (file text explanation : List ℕ) → (number place : ℕ) → List ℕ
source_report file text explanation number place =
    place_heading file text place ++ fault_words explanation number ++ codes "\n" ++ marked_place text place

-- the place behind so many line feeds of a text that begins at this place, or its end
abbrev pub behind_lines : (lines at : ℕ) → List ℕ → ℕ
behind_lines n at [] = at
behind_lines n at (c ∷ rest) = if nat_eq n 0 then at else behind_lines (if nat_eq c 10 then n - 1 else n) (suc at) rest

-- what stands on the line of this number, the first being 1
abbrev pub numbered_line : ℕ → List ℕ → List ℕ
numbered_line number text = first_line (drop (behind_lines (number - 1) 0 text) text)

-- of a fault of a schedule in a line: `FILE:LINE: ` and the same words, then the line
abbrev pub schedule_report : (file text explanation : List ℕ) → (number line : ℕ) → List ℕ
schedule_report file text explanation number line =
    line_heading file line ++ fault_words explanation number ++ codes "\n" ++ map shown (numbered_line line text) ++ codes "\n"
