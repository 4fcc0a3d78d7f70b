-- The text of a schedule (docs/FORMATS.md, "Schedule"), as it is written.
use Rattle.std.specs.Prelude.{ℕ, ℤ, pos, List, [], ◌∷◌, ◌++◌, codes}
use Rattle.std.specs.Fmt.{signed_decimal}
use Rattle.base.specs.declared.schedule.ScheduleLine.{ScheduleLine}

-- a number, and what follows it
abbrev pub number_text : ℤ → List ℕ → List ℕ
number_text number end = signed_decimal number ++ end

-- `TIME CHANNEL VALUE`
abbrev pub line_text : ScheduleLine → List ℕ
line_text l = number_text l.time (codes " ") ++ number_text (pos l.channel) (codes " ") ++ number_text l.value (codes "\n")

abbrev pub schedule_text : List ScheduleLine → List ℕ
schedule_text [] = []
schedule_text (l ∷ lines) = line_text l ++ schedule_text lines
