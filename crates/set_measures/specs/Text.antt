-- The text of what is measured on all schedules of a set, byte for byte (docs/FORMATS.md, "Measures of a set").
use Rattle.std.specs.Prelude.{ℕ, ◌+◌, ℤ, List, [], ◌∷◌, ◌++◌, Option, Some, None, Bool, true, false, ◌&&◌, codes, decimal, flat_map, nat_eq, nat_lt, slice_get, if◌then◌else◌}
use Rattle.std.specs.Fmt.{signed_decimal}
use Rattle.std.specs.List.{list_any}
use Rattle.base.specs.declared.schedule.ScheduleLine.{ScheduleLine}
use Rattle.choices.specs.Slots.{Slot}
use Rattle.choices.specs.Writing.{schedule_text}
use Rattle.image.specs.Sections.{Sections}
use Rattle.image.specs.Texts.{names_of}
use Rattle.measuring.specs.Text.{heading, kind, number}
use Rattle.measuring.specs.declared.text.Form.{Form}
use Rattle.measuring.specs.declared.text.Form.TheVariants.{Table, Fields}
use Rattle.tracing.specs.Traces.{named_object}
use Rattle.set_measures.specs.Choices.{schedules_of}
use Rattle.set_measures.specs.Extremes.{capped}
use Rattle.set_measures.specs.Quantities.{direction_of}
use Rattle.set_measures.specs.declared.extreme.Extreme.{Extreme}
use Rattle.set_measures.specs.declared.extreme.Row.{Row}
use Rattle.set_measures.specs.declared.measure.ActorQuantity.{ActorQuantity}
use Rattle.set_measures.specs.declared.measure.ActorQuantity.TheVariants.{Jobs, Steps, LeastSteps, MostSteps, Response, Blocking, Preemptions, QueuedCalls, LongestWait, TotalWait, LateDelays, Lateness, LeastDistance, Frames, Words}
use Rattle.set_measures.specs.declared.measure.Direction.{Direction}
use Rattle.set_measures.specs.declared.measure.Direction.TheVariants.{Greatest, Least}
use Rattle.set_measures.specs.declared.measure.Measure.{Measure}
use Rattle.set_measures.specs.declared.measure.Measure.TheVariants as of
use Rattle.set_measures.specs.declared.measure.ObjectQuantity.{ObjectQuantity}
use Rattle.set_measures.specs.declared.measure.ObjectQuantity.TheVariants as object
use Rattle.set_measures.specs.declared.measure.UsageQuantity.{UsageQuantity}
use Rattle.set_measures.specs.declared.measure.UsageQuantity.TheVariants as usage
use Rattle.set_measures.specs.declared.set.SetMeasures.{SetMeasures}

-- ---- the names of measures

abbrev pub actor_word : ActorQuantity → List ℕ
actor_word Jobs = codes "jobs"
actor_word Steps = codes "steps"
actor_word LeastSteps = codes "least steps"
actor_word MostSteps = codes "most steps"
actor_word Response = codes "response"
actor_word Blocking = codes "blocking"
actor_word Preemptions = codes "preemptions"
actor_word QueuedCalls = codes "queued calls"
actor_word LongestWait = codes "longest wait"
actor_word TotalWait = codes "total wait"
actor_word LateDelays = codes "late delays"
actor_word Lateness = codes "lateness"
actor_word LeastDistance = codes "least distance"
actor_word Frames = codes "frames"
actor_word Words = codes "words"

abbrev pub object_word : ObjectQuantity → List ℕ
object_word object.Calls = codes "calls"
object_word object.QueuedCalls = codes "queued calls"

abbrev pub usage_word : UsageQuantity → List ℕ
usage_word usage.Calls = codes "calls"
usage_word usage.LongestAction = codes "longest action"

-- ---- rows: a value, the number of a schedule, a measure, and whose it is

abbrev pub set_heading : List ℕ
set_heading = codes "    value  schedule measure\n"

-- what a row is about, and its two numbers
abbrev pub row_front : Form → (word : List ℕ) → Extreme → List ℕ
row_front form word e = (kind form word ++ number form e.value) ++ number form e.number

-- between a measure and the name of whom it is
abbrev pub joint : Form → List ℕ → List ℕ
joint Table word = codes " " ++ word ++ codes " "
joint Fields word = codes "\t"

abbrev pub named_row : Form → (about : List ℕ) → Extreme → (word name : List ℕ) → List ℕ
named_row form about e word name = row_front form about e ++ word ++ joint form (codes "of") ++ (name ++ codes "\n")

abbrev pub usage_row : Form → Extreme → (word task object : List ℕ) → List ℕ
usage_row form e word task object =
    row_front form (codes "inside") e ++ word ++ joint form (codes "of") ++ task ++ joint form (codes "at") ++ (object ++ codes "\n")

abbrev pub instants_row : Form → Extreme → List ℕ
instants_row form e = row_front form (codes "instant") e ++ codes "steps at one time\n"

-- objects have these names
abbrev pub measure_row : Form → Sections → (names : List (List ℕ)) → Measure → Extreme → List ℕ
measure_row form i names (of.OfActor t quantity) e = named_row form (codes "task") e (actor_word quantity) ((names_of i).task t)
measure_row form i names (of.OfObject o quantity) e = named_row form (codes "object") e (object_word quantity) (named_object o (slice_get names o))
measure_row form i names (of.OfUsage t o quantity) e =
    usage_row form e (usage_word quantity) ((names_of i).task t) (named_object o (slice_get names o))
measure_row form i names of.OfInstants e = instants_row form e

-- a greatest value of 0 has no row: it is 0 in each run
abbrev pub is_shown : Direction → ℕ → Bool
is_shown Greatest value = nat_lt 0 value
is_shown Least value = true

abbrev pub extreme_row : Form → Sections → (names : List (List ℕ)) → Measure → Option Extreme → List ℕ
extreme_row form i names measure None = []
extreme_row form i names measure (Some e) = if is_shown (direction_of measure) e.value then measure_row form i names measure e else []

abbrev pub rows_text : Form → Sections → (names : List (List ℕ)) → List Row → List ℕ
rows_text form i names rows = flat_map (λ row. extreme_row form i names row.measure row.extreme) rows

-- ---- the schedules whose numbers the rows have

abbrev pub has_number : ℕ → Measure → Option Extreme → Bool
has_number n measure None = false
has_number n measure (Some e) = is_shown (direction_of measure) e.value && nat_eq n e.number

abbrev pub is_named : ℕ → List Row → Bool
is_named n rows = list_any (λ row. has_number n row.measure row.extreme) rows

-- a number, and what follows it
abbrev pub number_end : ℕ → List ℕ → List ℕ
number_end n end = decimal n ++ end

abbrev pub signed_end : ℤ → List ℕ → List ℕ
signed_end z end = signed_decimal z ++ end

-- the beginning of a line of the schedule of this number, and the line
abbrev pub line_front : ℕ → ScheduleLine → List ℕ
line_front n l = codes "schedule\t" ++ number_end n (codes "\t") ++ signed_end l.time (codes "\t")

abbrev pub line_row : ℕ → ScheduleLine → List ℕ
line_row n l = line_front n l ++ number_end l.channel (codes "\t") ++ signed_end l.value (codes "\n")

abbrev pub lines_text : ℕ → List ScheduleLine → List ℕ
lines_text n lines = flat_map (line_row n) lines

abbrev pub numbered_schedule : Form → ℕ → List ScheduleLine → List ℕ
numbered_schedule Table n lines = codes "\nschedule " ++ number_end n (codes "\n") ++ schedule_text lines
numbered_schedule Fields n lines = lines_text n lines

abbrev pub named_schedule : Form → List Row → ℕ → List ScheduleLine → List ℕ
named_schedule form rows n lines = if is_named n rows then numbered_schedule form n lines else []

-- of these schedules, of which the first one has the number n
abbrev pub schedules_text : Form → List Row → ℕ → List (List ScheduleLine) → List ℕ
schedules_text form rows n [] = []
schedules_text form rows n (lines ∷ later) = named_schedule form rows n lines ++ schedules_text form rows (capped (n + 1)) later

-- ---- the last line

abbrev pub cut_count : ℕ → List ℕ
cut_count cut = codes ", " ++ number_end cut (codes " cut by the limit on steps")

abbrev pub cut_text : ℕ → List ℕ
cut_text cut = if nat_eq cut 0 then [] else cut_count cut

abbrev pub count_text : (schedules cut : ℕ) → List ℕ
count_text schedules cut = number_end schedules (codes " schedules") ++ cut_text cut ++ codes "\n"

-- all that is written
abbrev pub set_text : Form → Sections → (names : List (List ℕ)) → List Slot → SetMeasures → List ℕ
set_text form i names slots s =
    heading form set_heading
    ++ rows_text form i names s.rows.items
    ++ schedules_text form s.rows.items 1 (schedules_of slots)
    ++ heading form (codes "\n")
    ++ count_text s.schedules s.cut
