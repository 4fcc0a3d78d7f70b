-- Which words ask for what (docs/FORMATS.md, "Commands").
use Rattle.std.specs.Prelude.{◌≡◌, ◌&&◌, ◌||◌, ◌^◌, ℕ, ◌-◌, ℤ, pos, Bool, true, false, not, List, [], ◌∷◌, length, Option, Some, None, Result, Ok, Err, if◌then◌else◌, bytes_eq, codes, drop, is_some, nat_eq, nat_le, nat_lt, option_map, take, ⊤}
use Rattle.std.specs.List.{after_first, before_first, list_all, list_any}
use Rattle.choices.specs.declared.part.Part.{Part}
use Rattle.std.specs.Str.Parse.{digits_value}
use Rattle.command_line.specs.declared.TheConstants.{SIMULATED_STEPS}
use Rattle.command_line.specs.declared.Request.{Request}
use Rattle.command_line.specs.declared.Request.TheVariants as requests
use Rattle.command_line.specs.declared.Sought.{Sought}
use Rattle.command_line.specs.declared.Sought.TheVariants as sought
use Rattle.command_line.specs.declared.View.{View}
use Rattle.command_line.specs.declared.View.TheVariants as views
use Rattle.command_line.specs.declared.WordsError.{WordsError}
use Rattle.command_line.specs.declared.WordsError.TheVariants as errors

-- what a search looks for
pub data Wanted : Type 0 where
  UnhandledOrWaits Unhandled WaitsForever : Wanted
  LineOf : (label : List ℕ) → Wanted

-- what is asked for: names are those of files, a number is that of a fault or of none
pub data Command : Type 0 where
  CompileText : (source image : List ℕ) → Command
  ListImage : (image : List ℕ) → Command
  RunImage : (image schedule : List ℕ) (limit : ℕ) → Command
  GoText : (source schedule : List ℕ) (limit : ℕ) → Command
  -- a view of a run, with a time in microseconds, if one is given, which the clock doesn't pass
  TraceText : View → (source schedule : List ℕ) (limit : ℕ) (until : Option ℤ) → Command
  ExplainFault : (number : ℕ) → Command
  ExplainText : (number : ℕ) (source : List ℕ) → Command
  CheckText : (source : List ℕ) → Command
  FormatText : (source : List ℕ) → Command
  LowerText : (source : List ℕ) → Command
  -- the schedule is empty where none is named
  SimulateText : (source : List ℕ) (schedule : Option (List ℕ)) (limit : ℕ) (until : Option ℤ) → Command
  -- a time in microseconds up to which the run on each schedule of a set is measured, and a limit on the steps of each; whether fields are written, or a table
  MeasureSet : (source choices : List ℕ) (until : ℤ) (limit : ℕ) (is_fields : Bool) → Command
  -- a time in microseconds up to which a part of a set is searched, and a limit on the steps at one time; whether nothing is reported meanwhile
  SearchText : (source choices : List ℕ) (until : ℤ) (limit : ℕ) → Wanted → Part → (is_quiet : Bool) → Command
  ShowManual ShowVersion Nothing : Command

abbrev pub is_digit : ℕ → Bool
is_digit c = nat_le 48 c && nat_le c 57

-- the value of one or more decimal digits, where that is below 2 ^ 64
abbrev pub numeral_of : List ℕ → Option ℕ
numeral_of digits =
    if nat_lt 0 (length digits) && (list_all is_digit digits && nat_lt (digits_value 10 digits) (2 ^ 64)) then Some (digits_value 10 digits)
    else None

abbrev pub within : (ℕ → Command) → Option ℕ → Command
within command (Some value) = command value
within command None = Nothing

-- a view of a whole run
abbrev pub seen : View → (source schedule : List ℕ) → (limit : ℕ) → Command
seen view source schedule limit = TraceText view source schedule limit None

-- a whole run
abbrev pub simulated : (source : List ℕ) → (schedule : Option (List ℕ)) → (limit : ℕ) → Command
simulated source schedule limit = SimulateText source schedule limit None

-- the commands without a file
abbrev pub asked_alone : List ℕ → Command
asked_alone name =
    if bytes_eq name (codes "manual") then ShowManual
    else (if bytes_eq name (codes "version") then ShowVersion else Nothing)

-- the commands
abbrev pub asked_plainly : List (List ℕ) → Command
asked_plainly (name ∷ []) = asked_alone name
asked_plainly (name ∷ word ∷ []) =
    if bytes_eq name (codes "list") then ListImage word
    else (if bytes_eq name (codes "explain") then within ExplainFault (numeral_of word)
    else (if bytes_eq name (codes "check") then CheckText word
    else (if bytes_eq name (codes "format") then FormatText word
    else (if bytes_eq name (codes "lower") then LowerText word
    else (if bytes_eq name (codes "simulate") then simulated word None SIMULATED_STEPS else Nothing)))))
asked_plainly (name ∷ first ∷ second ∷ []) =
    if bytes_eq name (codes "compile") then CompileText first second
    else (if bytes_eq name (codes "explain") then within (λ number. ExplainText number second) (numeral_of first)
    else (if bytes_eq name (codes "simulate") then simulated first (Some second) SIMULATED_STEPS else Nothing))
asked_plainly (name ∷ file ∷ schedule ∷ limit ∷ []) =
    if bytes_eq name (codes "run") then within (RunImage file schedule) (numeral_of limit)
    else (if bytes_eq name (codes "go") then within (GoText file schedule) (numeral_of limit)
    else (if bytes_eq name (codes "trace") then within (seen views.Rows file schedule) (numeral_of limit)
    else (if bytes_eq name (codes "simulate") then within (simulated file (Some schedule)) (numeral_of limit) else Nothing)))
asked_plainly words = Nothing

-- a word that can be no option: it is `-`, or doesn't begin with `-`
abbrev pub is_plain : List ℕ → Bool
is_plain [] = true
is_plain (c ∷ []) = true
is_plain (c ∷ d ∷ rest) = not (nat_eq c 45)

-- ---- `trace` with an option

-- `--time`, directly after `--vcd`, asks for a dump over virtual time; and the words after it
abbrev pub dumped_in : List (List ℕ) → View × List (List ℕ)
dumped_in [] = (views.Dump, [])
dumped_in (mark ∷ rest) = if bytes_eq mark (codes "--time") then (views.TimeDump, rest) else (views.Dump, mark ∷ rest)

-- what an option directly after `trace` asks for, with these words after it
abbrev pub viewed_in : (option : List ℕ) → List (List ℕ) → Option (View × List (List ℕ))
viewed_in option rest =
    if bytes_eq option (codes "--vcd") then Some (dumped_in rest)
    else (if bytes_eq option (codes "--chart") then Some (views.Chart, rest)
    else (if bytes_eq option (codes "--svg") then Some (views.Picture, rest) else None))

-- that, and the words after the option
abbrev pub behind_option : List (List ℕ) → Option (View × List (List ℕ))
behind_option (name ∷ option ∷ rest) = if bytes_eq name (codes "trace") then viewed_in option rest else None
behind_option words = None

-- what these ask for: a word `--` before them lets names begin with `-`
abbrev pub view_asked : View → List (List ℕ) → Command
view_asked view (source ∷ schedule ∷ limit ∷ []) =
    if is_plain source && is_plain schedule then within (seen view source schedule) (numeral_of limit) else Nothing
view_asked view (mark ∷ source ∷ schedule ∷ limit ∷ []) =
    if bytes_eq mark (codes "--") then within (seen view source schedule) (numeral_of limit) else Nothing
view_asked view words = Nothing

abbrev pub asked_among : List (List ℕ) → Option (View × List (List ℕ)) → Command
asked_among words (Some found) = view_asked found.0 found.1
asked_among words None = asked_plainly words

-- ---- `search`

-- the words behind `search`
abbrev pub behind_search : List (List ℕ) → Option (List (List ℕ))
behind_search [] = None
behind_search (name ∷ rest) = if bytes_eq name (codes "search") then Some rest else None

-- `--part`, and which part it is
abbrev pub are_part : List (List ℕ) → Bool
are_part (mark ∷ part ∷ []) = bytes_eq mark (codes "--part")
are_part words = false

-- none of them can be an option, but for a part at the end
abbrev pub are_plain : List (List ℕ) → Bool
are_plain [] = true
are_plain (first ∷ rest) = are_part (first ∷ rest) || (is_plain first && are_plain rest)

-- none of them can be an option, or a word `--` in front of them lets names begin with `-`
abbrev pub unmarked : List (List ℕ) → Option (List (List ℕ))
unmarked [] = Some []
unmarked (first ∷ rest) =
    if bytes_eq first (codes "--") then Some rest
    else (if are_plain (first ∷ rest) then Some (first ∷ rest) else None)

abbrev pub up_to_end : Option ℕ → Option ℤ
up_to_end None = None
up_to_end (Some time) = if nat_lt time (2 ^ 63) then Some (pos time) else None

-- the time that one or more decimal digits are, where it is below 2 ^ 63
abbrev pub time_of : List ℕ → Option ℤ
time_of digits = up_to_end (numeral_of digits)

-- what these words look for, and the words after that
abbrev pub wanted_in : List (List ℕ) → Wanted × List (List ℕ)
wanted_in [] = (UnhandledOrWaits, [])
wanted_in (word ∷ []) =
    if bytes_eq word (codes "unhandled") then (Unhandled, [])
    else (if bytes_eq word (codes "waits") then (WaitsForever, []) else (UnhandledOrWaits, word ∷ []))
wanted_in (word ∷ label ∷ rest) =
    if bytes_eq word (codes "unhandled") then (Unhandled, label ∷ rest)
    else (if bytes_eq word (codes "waits") then (WaitsForever, label ∷ rest)
    else (if bytes_eq word (codes "line") then (LineOf label, rest) else (UnhandledOrWaits, word ∷ label ∷ rest)))

-- the set itself, which is its only part
abbrev pub whole : Part
whole = record { before = 0; after = 0 }

-- the part of this number, from 1, of so many
abbrev pub numbered_part : (number count : ℕ) → Option Part
numbered_part number count =
    if nat_le 1 number && (nat_le number count && nat_lt count (2 ^ 32)) then Some (record { before = number - 1; after = count - number })
    else None

abbrev pub part_by : Option ℕ → Option ℕ → Option Part
part_by (Some number) (Some count) = numbered_part number count
part_by number count = None

abbrev pub is_slash : ℕ → Bool
is_slash c = nat_eq c 47

-- a number, `/`, and how many parts there are
abbrev pub part_of : List ℕ → Option Part
part_of text =
    if list_any is_slash text then part_by (numeral_of (before_first is_slash text)) (numeral_of (after_first is_slash text)) else None

-- that is the last word
abbrev pub last_part : List (List ℕ) → Option Part
last_part (part ∷ []) = part_of part
last_part words = None

-- the part that these words ask for
abbrev pub part_in : List (List ℕ) → Option Part
part_in [] = Some whole
part_in (mark ∷ rest) = if bytes_eq mark (codes "--part") then last_part rest else None

abbrev pub search_for : (is_quiet : Bool) → (source choices : List ℕ) → Option ℤ → Option ℕ → Wanted → Option Part → Command
search_for is_quiet source choices (Some until) (Some limit) wanted (Some part) = SearchText source choices until limit wanted part is_quiet
search_for is_quiet source choices until limit wanted part = Nothing

abbrev pub search_in : (is_quiet : Bool) → List (List ℕ) → Command
search_in is_quiet (source ∷ choices ∷ until ∷ limit ∷ rest) =
    search_for is_quiet source choices (time_of until) (numeral_of limit) (wanted_in rest).0 (part_in (wanted_in rest).1)
search_in is_quiet words = Nothing

abbrev pub search_among : (is_quiet : Bool) → Option (List (List ℕ)) → Command
search_among is_quiet (Some words) = search_in is_quiet words
search_among is_quiet None = Nothing

-- `--quiet`, directly after `search`, and the words after it
abbrev pub quiet_in : List (List ℕ) → Bool × List (List ℕ)
quiet_in [] = (false, [])
quiet_in (mark ∷ rest) = if bytes_eq mark (codes "--quiet") then (true, rest) else (false, mark ∷ rest)

-- what the words after `search` ask for
abbrev pub search_asked : List (List ℕ) → Command
search_asked words = search_among (quiet_in words).0 (unmarked (quiet_in words).1)

-- ---- `measure`

-- the words after `measure`
abbrev pub behind_measure : List (List ℕ) → Option (List (List ℕ))
behind_measure [] = None
behind_measure (name ∷ rest) = if bytes_eq name (codes "measure") then Some rest else None

-- `--tsv`, directly after `measure`, asks for fields that are separated by tabs; and the words after it
abbrev pub fields_in : List (List ℕ) → Bool × List (List ℕ)
fields_in [] = (false, [])
fields_in (mark ∷ rest) = if bytes_eq mark (codes "--tsv") then (true, rest) else (false, mark ∷ rest)

-- what is measured of one run, as fields or as a table
abbrev pub measures_in : (is_fields : Bool) → View
measures_in true = views.MeasuredFields
measures_in false = views.Measures

abbrev pub measures_up_to : (is_fields : Bool) → (source choices : List ℕ) → Option ℤ → Option ℕ → Command
measures_up_to is_fields source choices (Some until) (Some limit) = MeasureSet source choices until limit is_fields
measures_up_to is_fields source choices until limit = Nothing

-- what is measured of the runs on the schedules of a set
abbrev pub measures_of_set : (is_fields : Bool) → (source choices until limit : List ℕ) → Command
measures_of_set is_fields source choices until limit = measures_up_to is_fields source choices (time_of until) (numeral_of limit)

-- three words are those of one run, and four those of a set; a word `--` before them lets names begin with `-`
abbrev pub measured : (is_fields : Bool) → List (List ℕ) → Command
measured is_fields (source ∷ schedule ∷ limit ∷ []) = view_asked (measures_in is_fields) (source ∷ schedule ∷ limit ∷ [])
measured is_fields (first ∷ second ∷ third ∷ limit ∷ []) =
    if bytes_eq first (codes "--") then within (seen (measures_in is_fields) second third) (numeral_of limit)
    else (if is_plain first && is_plain second then measures_of_set is_fields first second third limit else Nothing)
measured is_fields (mark ∷ source ∷ choices ∷ until ∷ limit ∷ []) =
    if bytes_eq mark (codes "--") then measures_of_set is_fields source choices until limit else Nothing
measured is_fields words = Nothing

-- what the words after `measure` ask for
abbrev pub measure_asked : List (List ℕ) → Command
measure_asked words = measured (fields_in words).0 (fields_in words).1

-- ---- `--until`

-- a word that lets the names after it begin with `-`
abbrev pub is_escape : List ℕ → Bool
is_escape word = bytes_eq word (codes "--")

-- whether a name is that of a command that takes a time
abbrev pub takes_time : List ℕ → Bool
takes_time name = bytes_eq name (codes "simulate") || (bytes_eq name (codes "trace") || bytes_eq name (codes "measure"))

-- the words of a command that takes a time, of which none makes names of all that follow
abbrev pub takes_until : List (List ℕ) → Bool
takes_until [] = false
takes_until (name ∷ rest) = takes_time name && not (list_any is_escape rest)

abbrev pub last_two : List (List ℕ) → List (List ℕ)
last_two words = drop (length words - 2) words

abbrev pub before_until : List (List ℕ) → List (List ℕ)
before_until words = take (length words - 2) words

-- the word after `--until`
abbrev pub time_word : List (List ℕ) → Option (List ℕ)
time_word (mark ∷ time ∷ []) = if bytes_eq mark (codes "--until") then Some time else None
time_word words = None

-- where these are the last two words of a command that takes a time
abbrev pub until_word : List (List ℕ) → Option (List ℕ)
until_word words = if takes_until words then time_word (last_two words) else None

-- what is asked for, with a time that the clock doesn't pass
abbrev pub until_of : ℤ → Command → Command
until_of until (SimulateText source schedule limit earlier) = SimulateText source schedule limit (Some until)
until_of until (TraceText view source schedule limit earlier) = TraceText view source schedule limit (Some until)
until_of until command = Nothing

-- a time that is none asks for nothing
abbrev pub timed : Option ℤ → Command → Command
timed None command = Nothing
timed (Some until) command = until_of until command

-- ---- all

abbrev pub asked_by_measure : List (List ℕ) → Option (List (List ℕ)) → Command
asked_by_measure words (Some rest) = measure_asked rest
asked_by_measure words None = asked_among words (behind_option words)

-- what words without `search` in front and without `--until` ask for
abbrev pub asked_besides : List (List ℕ) → Command
asked_besides words = asked_by_measure words (behind_measure words)

-- by the word after `--until`, if it is there
abbrev pub asked_up_to : List (List ℕ) → Option (List ℕ) → Command
asked_up_to words None = asked_besides words
asked_up_to words (Some time) = timed (time_of time) (asked_besides (before_until words))

abbrev pub asked_by_search : List (List ℕ) → Option (List (List ℕ)) → Command
asked_by_search words (Some rest) = search_asked rest
asked_by_search words None = asked_up_to words (until_word words)

abbrev pub asked : List (List ℕ) → Command
asked words = asked_by_search words (behind_search words)

abbrev pub is_told_among : List (List ℕ) → Bool
is_told_among words = is_some (behind_option words) || list_all is_plain words

abbrev pub is_told_besides : List (List ℕ) → Bool
is_told_besides words = is_some (behind_measure words) || is_told_among words

abbrev pub is_told_up_to : List (List ℕ) → Option (List ℕ) → Bool
is_told_up_to words None = is_told_besides words
is_told_up_to words (Some time) = is_told_besides (before_until words)

-- words of which `asked` tells what they ask for
abbrev pub is_told : List (List ℕ) → Bool
is_told words = is_some (behind_search words) || is_told_up_to words (until_word words)

abbrev pub wanted_of : Sought → Wanted
wanted_of sought.UnhandledOrWaits = UnhandledOrWaits
wanted_of sought.Unhandled = Unhandled
wanted_of sought.WaitsForever = WaitsForever
wanted_of (sought.Line label) = LineOf label.now

abbrev pub command_of : Request → Command
command_of (requests.Compile source image) = CompileText source.now image.now
command_of (requests.List image) = ListImage image.now
command_of (requests.Run image schedule limit) = RunImage image.now schedule.now limit
command_of (requests.Go source schedule limit) = GoText source.now schedule.now limit
command_of (requests.Trace view source schedule limit until) = TraceText view source.now schedule.now limit until
command_of (requests.Explain number) = ExplainFault number
command_of (requests.ExplainText number source) = ExplainText number source.now
command_of (requests.Check source) = CheckText source.now
command_of (requests.Format source) = FormatText source.now
command_of (requests.Lower source) = LowerText source.now
command_of (requests.Simulate source schedule limit until) = SimulateText source.now (option_map (λ name. name.now) schedule) limit until
command_of (requests.MeasureSet source choices until limit is_fields) = MeasureSet source.now choices.now until limit is_fields
command_of (requests.Search source choices until limit wanted part is_quiet) = SearchText source.now choices.now until limit (wanted_of wanted) part is_quiet
command_of requests.Manual = ShowManual
command_of requests.Version = ShowVersion

-- the request is that for the command; the words are refused where there is none; or memory was refused
abbrev pub AnswersWords : Command → Result Request WordsError → Type 0
AnswersWords command (Ok request) = command_of request ≡ command
AnswersWords command (Err errors.Usage) = command ≡ Nothing
AnswersWords command (Err errors.Memory) = ⊤
