-- How a text's numbers, of any size, stand in 64 bits: one that is too large as the greatest.
use Rattle.std.specs.Prelude.{◌≡◌, ℕ, zero, suc, ◌-◌, ◌^◌, ℤ, pos, negsuc, List, min, Option, Some, None, ◌&&◌, IsTrue, int_le, ◌<◌, if◌then◌else◌}
use Rattle.base.specs.Arithmetic.{is_in_base_range}
use Rattle.base.specs.Schedule.{is_line}
use Rattle.base.specs.declared.limits.TheConstants.{SCHEDULE_LINES}
use Rattle.base.specs.declared.schedule.ScheduleLine.{ScheduleLine}
use Rattle.clock.specs.Texts.{LineText, line_at}
use Rattle.clock.specs.Schedules.{is_channel, text_of}
use Rattle.clock.specs.declared.reading.Line.{Line}

abbrev pub capped : ℕ → ℕ
capped n = min n (2 ^ 64 - 1)

abbrev pub capped_number : Option (ℕ × List ℕ) → Option (ℕ × List ℕ)
capped_number None = None
capped_number (Some n) = Some (capped n.0, n.1)

-- a value of 64 bits
abbrev pub in_range : ℤ → Option ℤ
in_range z = if is_in_base_range z then Some z else None

-- the value of a number behind a minus, if there is one
abbrev pub minus_in_range : ℕ → Option ℤ
minus_in_range zero = None
minus_in_range (suc n) = in_range (negsuc n)

-- a value of 64 bits and what stands behind it
abbrev pub ranged_value : Option (ℤ × List ℕ) → Option (ℤ × List ℕ)
ranged_value None = None
ranged_value (Some read) = if is_in_base_range read.0 then Some read else None

-- a channel that isn't one of 1 to 8 is none
abbrev pub known_channel : ℕ → Option ℕ
known_channel n = if is_channel n then Some n else None

abbrev pub line_of : LineText → Line
line_of line = record { time = line.time; channel = known_channel line.channel; value = line.value }

abbrev pub read_line : Option (LineText × List ℕ) → Option (Line × List ℕ)
read_line None = None
read_line (Some read) = Some (line_of read.0, read.1)

-- times are not before the start, and times and values have 64 bits
abbrev pub IsRanged : Line → Type 0
IsRanged line = IsTrue (int_le (pos 0) line.time && (is_in_base_range line.time && is_in_base_range line.value))

-- what a line says as a line of a schedule
abbrev pub IsNext : ℕ → ℤ → List ℕ → ScheduleLine → List ℕ → Type 0
IsNext count last rest line behind =
    (line_at rest ≡ Some (text_of line, behind)) × ((count < SCHEDULE_LINES) × (IsTrue (is_line line) × IsTrue (int_le last line.time)))
