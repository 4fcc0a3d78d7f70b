-- The value change dump of a run, byte for byte (docs/FORMATS.md, "Value change dumps").
use Rattle.std.specs.Prelude.{ℕ, zero, suc, ◌+◌, ◌*◌, ◌/◌, ◌%◌, List, [], ◌∷◌, ◌++◌, Option, Some, None, Bool, false, true, ◌&&◌, codes, decimal, length, nat_eq, nat_lt, slice_get, if◌then◌else◌}
use Rattle.std.specs.Fmt.{digits}
use Rattle.std.specs.List.{list_all}
use Rattle.base.specs.Names.{is_name}
use Rattle.base.specs.declared.schedule.ScheduleLine.{ScheduleLine}
use Rattle.image.specs.Code.{code}
use Rattle.image.specs.Sections.{Sections}
use Rattle.image.specs.Texts.{names_of}
use Rattle.machine.specs.Bounds.{cut_line}
use Rattle.machine.specs.Taken.{steps_taken}
use Rattle.machine.specs.declared.bound.Bound.{Bound}
use Rattle.waveforms.specs.Lines.{TaskLabel, labels_of}
use Rattle.waveforms.specs.Signals.{Shown, all_below, channels, components, lines_first, object_first, package_first, values}
use Rattle.waveforms.specs.declared.axis.Axis.{Axis}
use Rattle.waveforms.specs.declared.axis.Axis.TheVariants as axes
use Rattle.waveforms.specs.Scopes.{VariableScope, Scopes, Variable}
use Rattle.waveforms.specs.declared.text.TheConstants.{CODE_BYTES, CODES}

-- The code of a signal is its number in digits of 94, the printable characters from 33 on, without leading zeros: one character for the first 94 signals,
-- two for those after them, and so on.

-- its digits, so many at most, before these
abbrev pub code_onto : (most : ℕ) → ℕ → List ℕ → List ℕ
code_onto zero s behind = behind
code_onto (suc most) s behind = if nat_lt s CODES then (33 + s) ∷ behind else code_onto most (s / CODES) ((33 + s % CODES) ∷ behind)

-- ten are enough for a number of 64 bits
abbrev pub signal_code : ℕ → List ℕ
signal_code s = code_onto CODE_BYTES s []

-- Declarations

abbrev pub declaration_text : List ℕ → ℕ → List ℕ → List ℕ
declaration_text width s name = codes "$var wire " ++ width ++ codes " " ++ signal_code s ++ codes " " ++ name ++ codes " $end\n"

-- a scope with these declarations of signals
abbrev pub scope_text : List ℕ → List ℕ → List ℕ
scope_text name signals = codes "$scope module " ++ name ++ codes " $end\n" ++ signals ++ codes "$upscope $end\n"

-- its signals are the two that follow the time and those of the tasks before it
abbrev pub task_scope : (ℕ → List ℕ) → ℕ → List ℕ
task_scope name t =
    scope_text (name t) (declaration_text (codes "3") (1 + 2 * t) (codes "state") ++ declaration_text (codes "8") (2 + 2 * t) (codes "priority"))

-- Variables

abbrev pub is_printing : ℕ → Bool
is_printing c = nat_lt 32 c && nat_lt c 127

abbrev pub is_printable : List ℕ → Bool
is_printable name = nat_lt 0 (length name) && list_all is_printing name

-- The name that was given: the standard has identifiers of letters, digits and underlines, and with other printable characters those that begin with `\`. What
-- might break the file gives way to the number of the word.
abbrev pub variable_name : Variable → List ℕ
variable_name v =
    if is_name v.name then v.name else (if is_printable v.name then codes "\\" ++ v.name else codes "WORD_" ++ decimal v.word)

-- signed, so that viewers show it in decimal
abbrev pub variable_text : ℕ → Variable → List ℕ
variable_text s v = codes "$var integer 64 " ++ signal_code s ++ codes " " ++ variable_name v ++ codes " $end\n"

-- the first of them has number s
abbrev pub variables_text : ℕ → List Variable → List ℕ
variables_text s [] = []
variables_text s (v ∷ vs) = variable_text s v ++ variables_text (suc s) vs

abbrev pub package_name : List ℕ → List ℕ
package_name name = if is_name name then name else codes "PACKAGE"

abbrev pub package_scope : (tasks : ℕ) → Option VariableScope → List ℕ
package_scope tasks None = []
package_scope tasks (Some s) = scope_text (package_name s.name) (variables_text (package_first tasks) s.variables)

-- Objects

abbrev pub numbered_name : ℕ → List ℕ
numbered_name o = codes "OBJECT_" ++ decimal o

-- a name that was given, where it is one that Ada allows
abbrev pub name_or_number : ℕ → Option VariableScope → List ℕ
name_or_number o None = numbered_name o
name_or_number o (Some s) = if is_name s.name then s.name else numbered_name o

abbrev pub object_name : Scopes → ℕ → List ℕ
object_name scopes o = name_or_number o (slice_get scopes.objects o)

-- its signals, the first of which has number s
abbrev pub object_text : Scopes → (s : ℕ) → ℕ → List ℕ
object_text scopes s o =
    declaration_text (codes "8") s (codes "inside") ++ declaration_text (codes "8") (s + 1) (codes "queued") ++ variables_text (s + 2) (components scopes o)

abbrev pub object_scope : Scopes → (tasks : ℕ) → ℕ → List ℕ
object_scope scopes tasks o = scope_text (object_name scopes o) (object_text scopes (object_first scopes tasks o) o)

-- Inputs

-- signed, as variables are
abbrev pub channel_text : ℕ → ℕ → List ℕ
channel_text s c = codes "$var integer 64 " ++ signal_code s ++ codes " CHANNEL_" ++ decimal c ++ codes " $end\n"

-- the first of them has number s
abbrev pub channels_text : ℕ → List ℕ → List ℕ
channels_text s [] = []
channels_text s (c ∷ cs) = channel_text s c ++ channels_text (suc s) cs

-- no scope where no channel has a line
abbrev pub inputs_scope : ℕ → List ℕ → List ℕ
inputs_scope s [] = []
inputs_scope s (c ∷ cs) = scope_text (codes "inputs") (channels_text s (c ∷ cs))

-- Lines

-- the task's name and the label, which has printable characters alone (base/specs/Names, `is_label`)
abbrev pub label_name : (name : ℕ → List ℕ) → TaskLabel → List ℕ
label_name name p = name p.task ++ codes "." ++ p.label

-- signed, as variables are, and with `\` before the name, as those whose name is no identifier
abbrev pub label_text : (name : ℕ → List ℕ) → ℕ → TaskLabel → List ℕ
label_text name s p = codes "$var integer 64 " ++ signal_code s ++ codes " \\" ++ label_name name p ++ codes " $end\n"

-- the first of them has number s
abbrev pub labels_text : (name : ℕ → List ℕ) → ℕ → List TaskLabel → List ℕ
labels_text name s [] = []
labels_text name s (p ∷ ps) = label_text name s p ++ labels_text name (suc s) ps

-- no scope where the run writes no line
abbrev pub lines_scope : (name : ℕ → List ℕ) → ℕ → List TaskLabel → List ℕ
lines_scope name s [] = []
lines_scope name s (p ∷ ps) = scope_text (codes "lines") (labels_text name s (p ∷ ps))

-- All

-- what a tick of the axis is
abbrev pub axis_comment : Axis → List ℕ
axis_comment axes.Steps = codes "$comment one tick is one step of the run; time is virtual time in microseconds $end\n"
axis_comment axes.Time = codes "$comment one tick is one microsecond of virtual time; values are those at the end of an instant $end\n"

-- how long viewers take it to be
abbrev pub timescale : Axis → List ℕ
timescale axes.Steps = codes "$timescale 1 ns $end\n"
timescale axes.Time = codes "$timescale 1 us $end\n"

-- what the file says of itself
abbrev pub preamble : Axis → List ℕ
preamble axis =
    axis_comment axis
    ++ codes "$comment state: 0 ready, 1 running, 2 delayed, 3 queued, 4 served, 5 finished, 6 left by an exception $end\n"
    ++ codes "$comment inside, queued: 0 nobody, else the number of a task in the order below, counted from 1 $end\n"
    ++ timescale axis
    ++ codes "$scope module run $end\n"

abbrev pub declarations_text : Axis → Scopes → List ScheduleLine → List TaskLabel → Sections → List ℕ
declarations_text axis scopes schedule labels i =
    preamble axis
    ++ declaration_text (codes "64") 0 (codes "time")
    ++ all_below (length i.tasks) (task_scope (names_of i).task)
    ++ package_scope (length i.tasks) scopes.package_
    ++ all_below (length i.objects) (object_scope scopes (length i.tasks))
    ++ inputs_scope (object_first scopes (length i.tasks) (length i.objects)) (channels schedule)
    ++ lines_scope (names_of i).task (lines_first scopes schedule (length i.tasks) (length i.objects)) labels
    ++ codes "$upscope $end\n$enddefinitions $end\n"

-- Values

-- in binary, without leading zeros
abbrev pub value_text : ℕ → ℕ → List ℕ
value_text s value = codes "b" ++ digits 2 false value ++ codes " " ++ signal_code s ++ codes "\n"

-- the values of signals from number s on
abbrev pub values_text : ℕ → List ℕ → List ℕ
values_text s [] = []
values_text s (v ∷ vs) = value_text s v ++ values_text (suc s) vs

-- the values of signals from number s on that differ from those before
abbrev pub changes_text : ℕ → List ℕ → List ℕ → List ℕ
changes_text s (v ∷ vs) (w ∷ ws) = (if nat_eq v w then [] else value_text s w) ++ changes_text (suc s) vs ws
changes_text s _ _ = []

-- the value of a label's last line: x in place of digits, where there is no line so far
abbrev pub line_value_text : ℕ → Option ℕ → List ℕ
line_value_text s None = codes "bx " ++ signal_code s ++ codes "\n"
line_value_text s (Some value) = value_text s value

abbrev pub line_values_text : ℕ → List (Option ℕ) → List ℕ
line_values_text s [] = []
line_values_text s (v ∷ vs) = line_value_text s v ++ line_values_text (suc s) vs

abbrev pub is_same_value : Option ℕ → Option ℕ → Bool
is_same_value None None = true
is_same_value (Some v) (Some w) = nat_eq v w
is_same_value _ _ = false

abbrev pub line_changes_text : ℕ → List (Option ℕ) → List (Option ℕ) → List ℕ
line_changes_text s (v ∷ vs) (w ∷ ws) = (if is_same_value v w then [] else line_value_text s w) ++ line_changes_text (suc s) vs ws
line_changes_text s _ _ = []

-- of all signals: the first of the lines follows those that have a value from the start

abbrev pub all_values_text : Shown → List ℕ
all_values_text vs = values_text 0 vs.known ++ line_values_text (length vs.known) vs.lines

abbrev pub all_changes_text : Shown → Shown → List ℕ
all_changes_text old new = changes_text 0 old.known new.known ++ line_changes_text (length new.known) old.lines new.lines

abbrev pub tick_text : ℕ → List ℕ
tick_text n = codes "#" ++ decimal n ++ codes "\n"

-- all values, from this tick on
abbrev pub start_text : ℕ → Shown → List ℕ
start_text n vs = tick_text n ++ codes "$dumpvars\n" ++ all_values_text vs ++ codes "$end\n"

-- with the last line of the run
abbrev pub comment_text : List ℕ → List ℕ
comment_text last = codes "$comment " ++ last ++ codes "$end\n"

-- Steps as the axis: the world after n steps stands from tick n to tick n + 1

-- changes from this tick on, if there are any
abbrev pub with_tick : ℕ → List ℕ → List ℕ
with_tick n [] = []
with_tick n (c ∷ cs) = tick_text n ++ (c ∷ cs)

-- the text of step n, by the values before and after it
abbrev pub step_text : ℕ → Shown → Shown → List ℕ
step_text n old new = with_tick n (all_changes_text old new)

abbrev pub steps_text : Sections → Scopes → List ScheduleLine → List TaskLabel → ℕ → List ℕ
steps_text i scopes schedule labels zero = []
steps_text i scopes schedule labels (suc n) =
    steps_text i scopes schedule labels n
    ++ step_text (suc n) (values scopes schedule labels (code i schedule n)) (values scopes schedule labels (code i schedule (suc n)))

-- the end of the last world's tick
abbrev pub ending_text : ℕ → List ℕ → List ℕ
ending_text taken last = tick_text (taken + 1) ++ comment_text last

-- all that is written of a run within a bound, over its steps, with the variables of these scopes and the labels of its lines
abbrev pub waves_text : Sections → Scopes → List ScheduleLine → Bound → List ℕ
waves_text i scopes schedule bound =
    let k = (code i schedule bound.steps).kernel in
    let labels = labels_of k.lines in
    declarations_text axes.Steps scopes schedule labels i
    ++ start_text 0 (values scopes schedule labels (code i schedule 0))
    ++ steps_text i scopes schedule labels bound.steps
    ++ ending_text (steps_taken i schedule bound.steps) (cut_line bound.cut (names_of i) k.outcome k.now)
