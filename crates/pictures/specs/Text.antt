-- What is drawn of a run, row by row of its trace, byte for byte (docs/FORMATS.md, "Pictures").
use Rattle.std.specs.Prelude.{ℕ, ◌-◌, ◌/◌, ◌%◌, List, [], ◌∷◌, ◌++◌, Bool, true, false, Option, Some, None, codes, decimal, nat_eq, nat_lt, slice_get, unsigned_abs, if◌then◌else◌}
use Rattle.std.specs.Fmt.{signed_decimal}
use Rattle.base.specs.Names.{is_name}
use Rattle.base.specs.declared.schedule.ScheduleLine.{ScheduleLine}
use Rattle.kernel.specs.Text.{Names, line_text}
use Rattle.image.specs.Sections.{Sections}
use Rattle.image.specs.Texts.{names_of}
use Rattle.tracing.specs.Traces.{Comes, Shows, Telling, TraceRow, Wrote, named_object, without_end}
use Rattle.tracing.specs.declared.event.Event.{Event}
use Rattle.pictures.specs.Frames.{bottom, row_number, span, top, x_of, y_of}
use Rattle.pictures.specs.Inks.{class, offset, outline, words}
use Rattle.pictures.specs.Shapes.{begins_instant, mark_shape, object_shape, state_shape, use_shape}
use Rattle.pictures.specs.declared.frame.Axis.{Axis}
use Rattle.pictures.specs.declared.frame.Axis.TheVariants.{Time, Steps}
use Rattle.pictures.specs.declared.frame.Frame.{Frame}
use Rattle.pictures.specs.declared.frame.Row.{Row}
use Rattle.pictures.specs.declared.frame.Row.TheVariants.{Actor, Inputs}
use Rattle.pictures.specs.declared.ink.Ink.{Ink}
use Rattle.pictures.specs.declared.ink.Ink.TheVariants as inks
use Rattle.pictures.specs.declared.shape.Detail.{Detail}
use Rattle.pictures.specs.declared.shape.Detail.TheVariants as details
use Rattle.pictures.specs.declared.shape.Shape.{Shape}

-- Names: those of tasks and exceptions, as lines have them, and those of objects

pub record PictureNames : Type 0 where
  pub line : Names
  pub object : ℕ → List ℕ

-- a name that Ada allows needs no escape in XML
abbrev pub allowed : Option (List ℕ) → Option (List ℕ)
allowed None = None
allowed (Some name) = if is_name name then Some name else None

-- an object without such a name has its number
abbrev pub object_name : List (List ℕ) → ℕ → List ℕ
object_name objects o = named_object o (allowed (slice_get objects o))

abbrev pub picture_names : Sections → (objects : List (List ℕ)) → PictureNames
picture_names i objects = record { line = names_of i; object = object_name objects }

-- Numbers

-- a time in milliseconds
abbrev pub milliseconds : ℕ → List ℕ
milliseconds time = decimal (time / 1000) ++ codes "." ++ decimal (time / 100 % 10) ++ decimal (time / 10 % 10) ++ decimal (time % 10)

-- Elements. Throughout, things happen at a time, in microseconds, with a step of the run.

abbrev pub path_text : Ink → (x y : ℕ) → (title : List ℕ) → List ℕ
path_text ink x y title =
    codes "<path class=\"" ++ class ink ++ codes "\" d=\"M" ++ decimal x ++ codes " " ++ decimal y ++ outline ink ++ codes "\"><title>"
    ++ title ++ codes "</title></path>\n"

-- in one part, as far as its axis goes
abbrev pub placed_text : Frame → Axis → Row → Ink → (at : ℕ) → (title : List ℕ) → List ℕ
placed_text f axis row ink at title =
    if nat_lt (span f axis) at then [] else path_text ink (x_of f axis at) (y_of f axis (row_number f row) (offset ink)) title

-- in both
abbrev pub drawn_text : Frame → Row → Ink → (time step : ℕ) → (title : List ℕ) → List ℕ
drawn_text f row ink time step title = placed_text f Time row ink time title ++ placed_text f Steps row ink step title

-- Titles

abbrev pub moment_text : (time step : ℕ) → List ℕ
moment_text time step = codes " at " ++ milliseconds time ++ codes " ms, step " ++ decimal step

abbrev pub detail_text : PictureNames → Detail → List ℕ
detail_text names details.Nothing = []
detail_text names (details.Time time) = milliseconds (unsigned_abs time) ++ codes " ms"
detail_text names (details.Span time) = milliseconds time ++ codes " ms"
detail_text names (details.Object o) = names.object o
detail_text names (details.Actor t) = names.line.task t
detail_text names (details.Exception x) = names.line.exception x

abbrev pub title_text : PictureNames → Shape → (time step : ℕ) → List ℕ
title_text names s time step =
    names.line.task s.actor ++ codes " " ++ words s.ink ++ detail_text names s.detail ++ moment_text time step

-- Events

abbrev pub shape_text : Frame → PictureNames → (time step : ℕ) → Option Shape → List ℕ
shape_text f names time step None = []
shape_text f names time step (Some s) = drawn_text f s.row s.ink time step (title_text names s time step)

-- over steps, a line where an instant begins, and its time
abbrev pub instant_line : (x y bottom : ℕ) → List ℕ
instant_line x y bottom = codes "<path class=\"instant\" d=\"M" ++ decimal x ++ codes " " ++ decimal y ++ codes "V" ++ decimal bottom ++ codes "\"/>\n"

abbrev pub instant_label : (x y time : ℕ) → List ℕ
instant_label x y time =
    codes "<text class=\"instant\" transform=\"translate(" ++ decimal x ++ codes " " ++ decimal y ++ codes ")rotate(-60)\">" ++ milliseconds time
    ++ codes "</text>\n"

abbrev pub instant_at : Frame → (x time : ℕ) → List ℕ
instant_at f x time = instant_line x (top f Steps) (bottom f Steps) ++ instant_label x (top f Steps - 40) time

abbrev pub instant_text : Frame → (time step : ℕ) → List ℕ
instant_text f time step = if nat_lt f.steps step then [] else instant_at f (x_of f Steps step) time

abbrev pub begun_text : Frame → (time step : ℕ) → (begins : Bool) → List ℕ
begun_text f time step true = instant_text f time step
begun_text f time step false = []

abbrev pub event_text : Frame → PictureNames → (time step : ℕ) → Event → List ℕ
event_text f names time step e =
    shape_text f names time step (state_shape e)
    ++ shape_text f names time step (mark_shape e)
    ++ shape_text f names time step (object_shape e)
    ++ shape_text f names time step (use_shape e)
    ++ begun_text f time step (begins_instant e)

abbrev pub events_text : Frame → PictureNames → (time step : ℕ) → List Event → List ℕ
events_text f names time step [] = []
events_text f names time step (e ∷ events) = event_text f names time step e ++ events_text f names time step events

-- Lines that are written, and lines of the schedule

-- A label is made of any printable characters, of which XML has three as marks.

abbrev pub escaped_byte : ℕ → List ℕ
escaped_byte c =
    if nat_eq c 38 then codes "&amp;"
    else if nat_eq c 60 then codes "&lt;"
    else if nat_eq c 62 then codes "&gt;"
    else c ∷ []

abbrev pub escaped : List ℕ → List ℕ
escaped [] = []
escaped (c ∷ line) = escaped_byte c ++ escaped line

-- a line without its line feed, by the task that wrote it
abbrev pub line_title : Names → (task : ℕ) → (line : List ℕ) → (time step : ℕ) → List ℕ
line_title names t line time step = names.task t ++ codes " " ++ words inks.Line ++ escaped line ++ moment_text time step

abbrev pub flag_text : Frame → Names → (task : ℕ) → (line : List ℕ) → (time step : ℕ) → List ℕ
flag_text f names t line time step = drawn_text f (Actor t) inks.Line time step (line_title names t line time step)

abbrev pub input_title : ScheduleLine → (step : ℕ) → List ℕ
input_title x step = words inks.Input ++ decimal x.channel ++ codes " " ++ signed_decimal x.value ++ moment_text (unsigned_abs x.time) step

abbrev pub input_text : Frame → ScheduleLine → (step : ℕ) → List ℕ
input_text f x step = drawn_text f Inputs inks.Input (unsigned_abs x.time) step (input_title x step)

-- Rows of the trace (tracing/specs/Traces)

abbrev pub telling_text : Frame → PictureNames → (time step : ℕ) → Telling → List ℕ
telling_text f names time step (Wrote t a line) = flag_text f names.line t (without_end (line_text names.line line)) time step
telling_text f names time step (Comes x) = input_text f x step
telling_text f names time step (Shows e) = event_text f names time step e

abbrev pub row_text : Frame → PictureNames → TraceRow → List ℕ
row_text f names r = telling_text f names (unsigned_abs r.time) r.step r.telling

abbrev pub rows_text : Frame → PictureNames → List TraceRow → List ℕ
rows_text f names [] = []
rows_text f names (r ∷ rs) = row_text f names r ++ rows_text f names rs
