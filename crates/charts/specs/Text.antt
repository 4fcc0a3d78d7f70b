-- The text of a run's chart, byte for byte (docs/FORMATS.md, "Charts").
use Rattle.std.specs.Prelude.{ℕ, zero, suc, ◌+◌, ◌-◌, ◌*◌, ◌/◌, ◌^◌, List, [], ◌∷◌, ◌++◌, ℤ, Bool, true, false, ◌&&◌, ◌||◌, codes, decimal, int_le, length, min, nat_eq, nat_lt, slice_get, unwrap_or, if◌then◌else◌}
use Rattle.base.specs.declared.limits.TheConstants.{CHANNELS}
use Rattle.base.specs.declared.schedule.ScheduleLine.{ScheduleLine}
use Rattle.image.specs.Code.{code}
use Rattle.image.specs.Sections.{Sections}
use Rattle.image.specs.Texts.{names_of}
use Rattle.machine.specs.Bounds.{cut_line}
use Rattle.machine.specs.declared.bound.Bound.{Bound}
use Rattle.measuring.specs.Text.{below, spaces}
use Rattle.tracing.specs.Traces.{named_object}
use Rattle.charts.specs.Cells.{rest_mark}
use Rattle.charts.specs.Runs.{cells_after}
use Rattle.charts.specs.Scales.{column, scale_of}
use Rattle.charts.specs.Signs.{Cells, row_number}
use Rattle.charts.specs.declared.cell.Cell.{Cell}
use Rattle.charts.specs.declared.cell.Rest.{Rest}
use Rattle.charts.specs.declared.cell.Rest.TheVariants.{Nothing}
use Rattle.charts.specs.declared.rows.Row.TheVariants.{Object, Lines}
use Rattle.charts.specs.declared.scale.TheConstants.{COLUMNS}

-- Rows

-- by the mark of what has acted in the column, and by how it rests at the end of that
abbrev pub mark : (act : List ℕ) → Cell → Rest → List ℕ
mark act cell rest =
    if cell.is_unhandled then codes "!"
    else if cell.is_late then codes "L"
    else if cell.is_preempted then codes "P"
    else if cell.acts then act
    else rest_mark rest

-- how it rests before a column of a row: as the last column says that says anything
abbrev pub rest_before : (ℕ → Cell) → (column : ℕ) → Rest
rest_before row zero = Nothing
rest_before row (suc c) = unwrap_or (row c).rests (rest_before row c)

abbrev pub cell_text : (act : List ℕ) → (ℕ → Cell) → (column : ℕ) → List ℕ
cell_text act row c = mark act (row c) (rest_before row (suc c))

abbrev pub name_text : List ℕ → List ℕ
name_text name = codes " " ++ name ++ codes "\n"

abbrev pub row_text : (act : List ℕ) → (ℕ → Cell) → (columns : ℕ) → (name : List ℕ) → List ℕ
row_text act row columns name = below columns (cell_text act row) ++ name_text name

-- whether something has acted in the first columns of a row
abbrev pub acts : (ℕ → Cell) → (columns : ℕ) → Bool
acts row zero = false
acts row (suc c) = acts row c || (row c).acts

-- the row of a task, or of a handler that has run; tasks are numbered from 0, and after them are the handlers of the channels from 1
abbrev pub shown_actor : Sections → Cells → (columns : ℕ) → ℕ → List ℕ
shown_actor i cells columns t =
    if nat_lt t (length i.tasks) || acts (cells t) COLUMNS then row_text (codes "#") (cells t) columns ((names_of i).task t) else []

abbrev pub shown_object : (names : List (List ℕ)) → Cells → (columns : ℕ) → ℕ → List ℕ
shown_object names cells columns o = row_text (codes "x") (cells (row_number (Object o))) columns (named_object o (slice_get names o))

-- Inputs

abbrev pub comes_at : (scale : ℕ) → (last : ℤ) → (column : ℕ) → ScheduleLine → Bool
comes_at scale last c line = int_le line.time last && nat_eq (column scale line.time) c

-- whether a line of the schedule comes in a column up to this time
abbrev pub comes : List ScheduleLine → (scale : ℕ) → (last : ℤ) → (column : ℕ) → Bool
comes [] scale last c = false
comes (line ∷ lines) scale last c = comes_at scale last c line || comes lines scale last c

abbrev pub input_mark : Bool → List ℕ
input_mark true = codes "^"
input_mark false = codes " "

abbrev pub inputs_text : List ScheduleLine → (scale : ℕ) → (last : ℤ) → (columns : ℕ) → List ℕ
inputs_text lines scale last columns = below columns (λ c. input_mark (comes lines scale last c)) ++ name_text (codes "inputs")

-- The axis

-- No number is greater than 2 ^ 64 - 1.
abbrev pub plus_times : ℕ → ℕ → ℕ
plus_times m n = min (m * n) (2 ^ 64 - 1)

-- the time at this one of each tenth columns, which is a whole number in the unit that is chosen
abbrev pub label : (scale tick : ℕ) → List ℕ
label scale tick =
    let time = plus_times scale (plus_times tick 10) in
    if nat_lt scale 100 then decimal time ++ codes " us"
    else if nat_lt scale 100000 then decimal (time / 1000) ++ codes " ms"
    else decimal (time / 1000000) ++ codes " s"

-- the labels of so many of them, each from its column on where those before it leave room
abbrev pub axis : (scale ticks : ℕ) → List ℕ
axis scale zero = []
axis scale (suc n) = (axis scale n ++ spaces (10 * n - length (axis scale n))) ++ codes "|" ++ label scale n

abbrev pub scale_text : ℕ → List ℕ
scale_text scale = codes "1 column = " ++ decimal scale ++ codes " us\n"

abbrev pub heading : (scale ticks : ℕ) → List ℕ
heading scale ticks = scale_text scale ++ axis scale ticks ++ codes "\n"

-- The whole

-- of a run up to this time, where objects have these names
abbrev pub run_text : Sections → (names : List (List ℕ)) → List ScheduleLine → (scale : ℕ) → (last : ℤ) → Cells → List ℕ
run_text i names schedule scale last cells =
    let columns = column scale last + 1 in
    heading scale (column scale last / 10 + 1)
    ++ inputs_text schedule scale last columns
    ++ row_text (codes "v") (cells (row_number Lines)) columns (codes "lines")
    ++ below (length i.tasks + (CHANNELS + 1)) (shown_actor i cells columns)
    ++ below (length i.objects) (shown_object names cells columns)

-- all that is written of a run within a bound: its chart, and its last line
abbrev pub chart_text : Sections → (names : List (List ℕ)) → List ScheduleLine → Bound → List ℕ
chart_text i names schedule bound =
    let k = (code i schedule bound.steps).kernel in
    let scale = scale_of k.now in
    run_text i names schedule scale k.now (cells_after scale i schedule bound.steps)
    ++ cut_line bound.cut (names_of i) k.outcome k.now
