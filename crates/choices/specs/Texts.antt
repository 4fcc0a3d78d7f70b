-- The text of a set of schedules (docs/FORMATS.md, "Sets of schedules"): what a line of it says.
use Rattle.std.specs.Prelude.{ℕ, zero, suc, ◌+◌, ◌-◌, ◌*◌, ◌/◌, ◌^◌, ℤ, pos, negsuc, ◌+ℤ◌, ◌-ℤ◌, List, [], ◌∷◌, ◌++◌, take, drop, Bool, true, false, ◌&&◌, ◌||◌, not, nat_eq, nat_le, nat_lt, int_le, Option, Some, None, if◌then◌else◌}
use Rattle.std.specs.List.{list_any, prefix_len, slice_split}
use Rattle.clock.specs.Capped.{ranged_value}
use Rattle.clock.specs.Texts.{and_then, behind_byte, followed_by, number_at, value_at}
use Rattle.choices.specs.declared.form.Times.{Times}
use Rattle.choices.specs.declared.ranges.Range.{Range}
use Rattle.choices.specs.declared.ranges.Range.TheVariants.{NoLine, Values}

-- ---- times: one, or `FROM..TO/STEP`, which is FROM, FROM + STEP and so on, up to TO at most

-- what follows two dots, if they stand at the front
abbrev pub behind_one_dot : Option (List ℕ) → Option (List ℕ)
behind_one_dot None = None
behind_one_dot (Some text) = behind_byte 46 text

abbrev pub behind_dots : List ℕ → Option (List ℕ)
behind_dots text = behind_one_dot (behind_byte 46 text)

-- times of 64 bits, the last not before the first, and a step that leads on
abbrev pub times_of : (first last step : ℕ) → Option Times
times_of first last step =
    if nat_lt last (2 ^ 63) && (nat_lt step (2 ^ 63) && (nat_le first last && nat_lt 0 step)) then Some (record { first = first; last = last; step = step })
    else None

abbrev pub with_rest_if : {X : Type 0} → Option X → List ℕ → Option (X × List ℕ)
with_rest_if None rest = None
with_rest_if (Some x) rest = Some (x, rest)

abbrev pub times_behind : (first : ℕ) → (rest : List ℕ) → Option (List ℕ) → Option (Times × List ℕ)
times_behind first rest None = with_rest_if (times_of first first 1) rest
times_behind first rest (Some more) =
    and_then (followed_by 47 (number_at more)) (λ last t. and_then (number_at t) (λ step u. with_rest_if (times_of first last step) u))

-- the times at the front of a text, and what follows them
unfoldable pub times_at : List ℕ → Option (Times × List ℕ)
times_at text = and_then (number_at text) (λ first rest. times_behind first rest (behind_dots rest))

-- how many they are
abbrev pub count_of : Times → ℕ
count_of t = (t.last - t.first) / t.step + 1

-- the last of them
abbrev pub latest : Times → ℕ
latest t = t.first + (count_of t - 1) * t.step

-- ---- alternatives: `-`, a value, or `FIRST..LAST`, which is each value from the first to the last

abbrev pub is_dash : List ℕ → Bool
is_dash (c ∷ []) = nat_eq c 45
is_dash text = false

abbrev pub is_empty : List ℕ → Bool
is_empty [] = true
is_empty (c ∷ text) = false

abbrev pub up_to : (first : ℤ) → Option (ℤ × List ℕ) → Option Range
up_to first None = None
up_to first (Some read) = if is_empty read.1 && int_le first read.0 then Some (Values first read.0) else None

abbrev pub value_behind : Option (List ℕ) → Option (ℤ × List ℕ)
value_behind None = None
value_behind (Some text) = ranged_value (value_at text)

abbrev pub range_from : Option (ℤ × List ℕ) → Option Range
range_from None = None
range_from (Some read) = if is_empty read.1 then Some (Values read.0 read.0) else up_to read.0 (value_behind (behind_dots read.1))

-- the alternatives that a text between two bars is
unfoldable pub range_of : List ℕ → Option Range
range_of text = if is_dash text then Some NoLine else range_from (ranged_value (value_at text))

abbrev pub in_front : Range → Option (List Range) → Option (List Range)
in_front r None = None
in_front r (Some ranges) = Some (r ∷ ranges)

abbrev pub range_and : Option Range → Option (List Range) → Option (List Range)
range_and None ranges = None
range_and (Some r) ranges = in_front r ranges

abbrev pub ranges_in : List (List ℕ) → Option (List Range)
ranges_in [] = Some []
ranges_in (part ∷ parts) = range_and (range_of part) (ranges_in parts)

abbrev pub is_bar : ℕ → Bool
is_bar c = nat_eq c 124

-- those that a text is, with a bar between each two
abbrev pub ranges_of : List ℕ → Option (List Range)
ranges_of text = ranges_in (slice_split is_bar text)

-- ---- what they are

-- a whole number that isn't negative; 0 for one that is
abbrev pub natural : ℤ → ℕ
natural (pos n) = n
natural (negsuc n) = 0

-- how far the second is above the first
abbrev pub distance : ℤ → ℤ → ℕ
distance first last = natural (last -ℤ first)

-- so many values from this one on
abbrev pub values_from : ℤ → ℕ → List (Option ℤ)
values_from value zero = []
values_from value (suc n) = Some value ∷ values_from (value +ℤ pos 1) n

abbrev pub alternatives_in : Range → List (Option ℤ)
alternatives_in NoLine = None ∷ []
alternatives_in (Values first last) = values_from first (distance first last + 1)

abbrev pub alternatives_of : List Range → List (Option ℤ)
alternatives_of [] = []
alternatives_of (r ∷ ranges) = alternatives_in r ++ alternatives_of ranges

-- two have an alternative in common
abbrev pub is_shared : Range → Range → Bool
is_shared NoLine NoLine = true
is_shared NoLine (Values first last) = false
is_shared (Values first last) NoLine = false
is_shared (Values first last) (Values least most) = int_le first most && int_le least last

abbrev pub is_shared_with : Range → List Range → Bool
is_shared_with r ranges = list_any (is_shared r) ranges

abbrev pub has_twice : List Range → Bool
has_twice [] = false
has_twice (r ∷ ranges) = is_shared_with r ranges || has_twice ranges

-- ---- lines

-- a line as it is written; its channel may be any number
pub record SlotLine : Type 0 where
  pub times : Times
  pub channel : ℕ
  pub ranges : List Range

abbrev pub is_in_line : ℕ → Bool
is_in_line c = not (nat_eq c 10)

-- what comes before the line feed, and after it
abbrev pub field_at : List ℕ → Option (List ℕ × List ℕ)
field_at text = followed_by 10 (Some (take (prefix_len is_in_line text) text, drop (prefix_len is_in_line text) text))

-- the parts of a line: times, space, channel, space, alternatives, line feed
pub record LineParts : Type 0 where
  pub times : Times
  pub channel : ℕ
  pub alternatives : List ℕ

unfoldable pub fields_at : List ℕ → Option (LineParts × List ℕ)
fields_at text =
    and_then (followed_by 32 (times_at text))
    (λ times t. and_then (followed_by 32 (number_at t))
    (λ channel u. and_then (field_at u)
    (λ alternatives rest. Some (record { times = times; channel = channel; alternatives = alternatives }, rest))))

abbrev pub with_ranges : LineParts → List ℕ → Option (List Range) → Option (SlotLine × List ℕ)
with_ranges fields rest None = None
with_ranges fields rest (Some ranges) = Some (record { times = fields.times; channel = fields.channel; ranges = ranges }, rest)

abbrev pub line_of : Option (LineParts × List ℕ) → Option (SlotLine × List ℕ)
line_of None = None
line_of (Some read) = with_ranges read.0 read.1 (ranges_of read.0.alternatives)

-- the line at the front of a text, and what follows it
abbrev pub line_at : List ℕ → Option (SlotLine × List ℕ)
line_at text = line_of (fields_at text)
