-- Which texts are schedules, and which rule the first faulty line of another one breaks (docs/FORMATS.md, "Schedule").
use Rattle.std.specs.Prelude.{◌≡◌, ◌≢◌, ◌⊎◌, ℕ, ◌+◌, ℤ, pos, List, [], ◌∷◌, length, Bool, ◌&&◌, not, nat_eq, nat_le, int_le, Option, Some, None, option_map, slice_get, IsTrue, if◌then◌else◌}
use Rattle.base.specs.Schedule.{is_schedule}
use Rattle.base.specs.declared.schedule.ScheduleLine.{ScheduleLine}
use Rattle.base.specs.declared.limits.TheConstants.{CHANNELS, SCHEDULE_LINES}
use Rattle.base.specs.declared.faults.TheConstants.{MEMORY_REFUSED, WRONG_SCHEDULE_LINE}
use Rattle.clock.specs.Texts.{LineText, line_at}
use Rattle.clock.specs.declared.faults.TheConstants.{TIME_GOES_BACK, UNKNOWN_CHANNEL, TOO_MANY_LINES}
use Rattle.clock.specs.declared.schedule.ScheduleFault.{ScheduleFault}

abbrev pub text_of : ScheduleLine → LineText
text_of line = record { time = line.time; channel = line.channel; value = line.value }

-- a text begins with these lines, and this stands behind them
abbrev pub BeginsWithLines : List ℕ → List ScheduleLine → List ℕ → Type 0
BeginsWithLines text [] rest = text ≡ rest
BeginsWithLines text (line ∷ lines) rest = (behind : List ℕ) × (line_at text ≡ Some (text_of line, behind)) × BeginsWithLines behind lines rest

-- the text has these lines and no more, and they are a schedule
abbrev pub IsScheduleText : List ℕ → List ScheduleLine → Type 0
IsScheduleText text lines = BeginsWithLines text lines [] × IsTrue (is_schedule lines)

-- the time and the channel of the line of this number, counted from 0
abbrev pub heard_line : List ScheduleLine → ℕ → Option (ℤ × ℕ)
heard_line lines number = option_map (λ line. (line.time, line.channel)) (slice_get lines number)

-- the time of the last line, or the start where there is none
abbrev pub time_after : ℤ → List ScheduleLine → ℤ
time_after time [] = time
time_after time (line ∷ lines) = time_after line.time lines

abbrev pub last_time : List ScheduleLine → ℤ
last_time lines = time_after (pos 0) lines

abbrev pub is_channel : ℕ → Bool
is_channel n = nat_le 1 n && nat_le n CHANNELS

-- the first rule that a line breaks, read behind lines up to this time
abbrev pub line_fault : ℤ → Option (LineText × List ℕ) → Option ℕ
line_fault last None = Some WRONG_SCHEDULE_LINE
line_fault last (Some read) =
    if not (is_channel read.0.channel) then Some UNKNOWN_CHANNEL else (if not (int_le last read.0.time) then Some TIME_GOES_BACK else None)

-- the first rule that the line at the front of the rest breaks, behind so many lines, up to this time
abbrev pub next_fault : ℕ → ℤ → List ℕ → Option ℕ
next_fault count last rest = if nat_eq count SCHEDULE_LINES then Some TOO_MANY_LINES else line_fault last (line_at rest)

-- the first faulty line: those before it are a schedule, and it breaks this rule
pub record IsFirstFault (text : List ℕ) (fault : ScheduleFault) : Type 0 where
  pub lines : List ScheduleLine
  pub rest : List ℕ
  pub begins : BeginsWithLines text lines rest
  pub are_schedule : IsTrue (is_schedule lines)
  pub more : rest ≢ []
  pub breaks : next_fault (length lines) (last_time lines) rest ≡ Some fault.number
  pub line_is : fault.line ≡ length lines + 1

abbrev pub memory_fault : ScheduleFault
memory_fault = record { number = MEMORY_REFUSED; line = 0 }

-- memory was refused, or a line is faulty
abbrev pub RefusesSchedule : List ℕ → ScheduleFault → Type 0
RefusesSchedule text fault = (fault ≡ memory_fault) ⊎ IsFirstFault text fault
