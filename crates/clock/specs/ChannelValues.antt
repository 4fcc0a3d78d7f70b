-- The values of all channels after each line of a schedule.
use Rattle.std.specs.Prelude.{ℕ, zero, suc, ℤ, pos, List, [], ◌∷◌, get_or, replicate, set}
use Rattle.base.specs.declared.limits.TheConstants.{CHANNELS}
use Rattle.base.specs.declared.schedule.ScheduleLine.{ScheduleLine}

-- the values of all channels, by their numbers, after a line
abbrev pub with_line : (values : List ℤ) → ScheduleLine → List ℤ
with_line values line = set values line.channel line.value

-- those after each line, where the values before the first one are these
abbrev pub values_from : (values : List ℤ) → List ScheduleLine → List (List ℤ)
values_from values [] = []
values_from values (line ∷ lines) = with_line values line ∷ values_from (with_line values line) lines

-- before the first line each has 0, also the number 0, which no channel has
abbrev pub no_values : List ℤ
no_values = replicate (suc CHANNELS) (pos 0)

-- the value of a channel after so many lines, of which each has its row of values; 0 before the first line
abbrev pub value_after : (rows : List (List ℤ)) → (passed channel : ℕ) → ℤ
value_after rows zero channel = pos 0
value_after rows (suc last) channel = get_or (get_or rows last []) channel (pos 0)
