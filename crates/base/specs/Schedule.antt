-- A schedule as a list of lines: when a list is one, and the input value of a channel at a time.
use Rattle.std.specs.Prelude.{ℕ, List, [], ◌∷◌, length, ℤ, pos, Bool, true, ◌&&◌, nat_eq, nat_le, int_le, if◌then◌else◌}
use Rattle.base.specs.declared.schedule.ScheduleLine.{ScheduleLine}
use Rattle.base.specs.declared.limits.TheConstants.{CHANNELS, SCHEDULE_LINES}
use Rattle.base.specs.Arithmetic.{is_in_base_range}

abbrev pub is_line : ScheduleLine → Bool
is_line l = int_le (pos 0) l.time && is_in_base_range l.time && nat_le 1 l.channel && nat_le l.channel CHANNELS && is_in_base_range l.value

-- lines in the order of their times, none of them before a time
abbrev pub are_ordered_from : ℤ → List ScheduleLine → Bool
are_ordered_from time [] = true
are_ordered_from time (l ∷ ls) = int_le time l.time && are_ordered_from l.time ls

abbrev pub are_lines : List ScheduleLine → Bool
are_lines [] = true
are_lines (l ∷ ls) = is_line l && are_lines ls

abbrev pub is_schedule : List ScheduleLine → Bool
is_schedule ls = nat_le (length ls) SCHEDULE_LINES && are_lines ls && are_ordered_from (pos 0) ls

-- whether a line gives the channel its value at a time or before
abbrev pub is_heard : ℕ → ℤ → ScheduleLine → Bool
is_heard channel now l = nat_eq l.channel channel && int_le l.time now

-- the value of the last line of the channel with a time at most now, and where there is none the value before
abbrev pub input_after : ℤ → List ScheduleLine → ℕ → ℤ → ℤ
input_after value [] channel now = value
input_after value (l ∷ ls) channel now = input_after (if is_heard channel now l then l.value else value) ls channel now

abbrev pub input : List ScheduleLine → ℕ → ℤ → ℤ
input ls channel now = input_after (pos 0) ls channel now
