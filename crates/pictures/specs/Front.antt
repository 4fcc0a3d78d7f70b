-- What is drawn before a run: the names of rows, the axes and the legend, byte for byte (docs/FORMATS.md, "Pictures").
use Rattle.std.specs.Prelude.{ℕ, zero, suc, ◌+◌, ◌-◌, ◌*◌, ◌/◌, ◌%◌, ◌^◌, List, [], ◌∷◌, ◌++◌, codes, decimal, min, nat_eq, nat_lt, if◌then◌else◌}
use Rattle.tracing.specs.Traces.{without_end}
use Rattle.pictures.specs.Frames.{bottom, span, top, x_of, y_of}
use Rattle.pictures.specs.Text.{PictureNames, instant_text, milliseconds}
use Rattle.pictures.specs.declared.frame.Axis.{Axis}
use Rattle.pictures.specs.declared.frame.Axis.TheVariants.{Time, Steps}
use Rattle.pictures.specs.declared.frame.Frame.{Frame}
use Rattle.pictures.specs.declared.spacing.TheConstants.{SPACINGS, TICKS}
use Rattle.pictures.specs.declared.style.TheConstants.{STYLE}

abbrev pub height : Frame → ℕ
height f = bottom f Steps + 700

abbrev pub opening_text : (height : ℕ) → List ℕ
opening_text height =
    codes "<svg xmlns=\"http://www.w3.org/2000/svg\" viewBox=\"0 0 17100 " ++ decimal height ++ codes "\" width=\"1710\" height=\"" ++ decimal (height / 10)
    ++ codes "\">\n"

-- what is drawn for each number below n, in their order
abbrev pub below : ℕ → (ℕ → List ℕ) → List ℕ
below zero f = []
below (suc n) f = below n f ++ f n

-- Rows

abbrev pub lane_text : (y : ℕ) → List ℕ
lane_text y = codes "<path class=\"row\" d=\"M2800 " ++ decimal y ++ codes "H16800\"/>\n"

abbrev pub label_text : (y : ℕ) → (name : List ℕ) → List ℕ
label_text y name = codes "<text class=\"name\" x=\"2700\" y=\"" ++ decimal y ++ codes "\">" ++ name ++ codes "</text>\n"

abbrev pub named_row : Frame → Axis → (row : ℕ) → (name : List ℕ) → List ℕ
named_row f axis row name = lane_text (y_of f axis row 250) ++ label_text (y_of f axis row 290) name

-- tasks, objects, and inputs
abbrev pub named_rows : Frame → PictureNames → Axis → List ℕ
named_rows f names axis =
    below f.tasks (λ t. named_row f axis t (names.line.task t))
    ++ below f.objects (λ o. named_row f axis (f.tasks + o) (names.object o))
    ++ named_row f axis (f.tasks + f.objects) (codes "inputs, interrupts")

-- Axes

-- the first of these with which the axis has few ticks
abbrev pub least_spacing : List ℕ → (span : ℕ) → ℕ
least_spacing [] span = 1
least_spacing (s ∷ spacings) span = if nat_lt (span / TICKS) s then s else least_spacing spacings span

-- of an axis that goes so far: the least of 1, 2, 5, 10, 20, 50, ...
abbrev pub spacing_of : (span : ℕ) → ℕ
spacing_of span = least_spacing SPACINGS span

abbrev pub time_label : (time : ℕ) → List ℕ
time_label time = (if nat_eq (time % 1000) 0 then decimal (time / 1000) else milliseconds time) ++ codes " ms"

abbrev pub tick_label : Axis → ℕ → List ℕ
tick_label Time at = time_label at
tick_label Steps at = decimal at

-- times are above the rows; steps below, since above these are the times of instants
abbrev pub label_y : Frame → Axis → ℕ
label_y f Time = top f Time - 60
label_y f Steps = bottom f Steps + 150

abbrev pub tick_line : (x y bottom : ℕ) → List ℕ
tick_line x y bottom = codes "<path class=\"tick\" d=\"M" ++ decimal x ++ codes " " ++ decimal y ++ codes "V" ++ decimal bottom ++ codes "\"/>\n"

abbrev pub tick_name : (x y : ℕ) → (label : List ℕ) → List ℕ
tick_name x y label = codes "<text class=\"tick\" x=\"" ++ decimal x ++ codes "\" y=\"" ++ decimal y ++ codes "\">" ++ label ++ codes "</text>\n"

abbrev pub tick_text : Frame → Axis → (at : ℕ) → List ℕ
tick_text f axis at =
    tick_line (x_of f axis at) (top f axis) (bottom f axis) ++ tick_name (x_of f axis at) (label_y f axis) (tick_label axis at)

-- No number is greater than 2 ^ 64 - 1.
abbrev pub times : ℕ → ℕ → ℕ
times m n = min (m * n) (2 ^ 64 - 1)

abbrev pub ticks_text : Frame → Axis → (spacing : ℕ) → List ℕ
ticks_text f axis spacing = below (min (span f axis / spacing) TICKS + 1) (λ k. tick_text f axis (times k spacing))

-- The whole

-- how many steps the second part has
abbrev pub heading_text : (y steps : ℕ) → List ℕ
heading_text y steps =
    codes "<text class=\"heading\" x=\"300\" y=\"" ++ decimal y ++ codes "\">Over the first " ++ decimal steps
    ++ codes " steps: each instant has its time above, in ms</text>\n"

abbrev pub part_text : Frame → PictureNames → Axis → List ℕ
part_text f names axis = named_rows f names axis ++ ticks_text f axis (spacing_of (span f axis))

abbrev pub front_text : Frame → PictureNames → List ℕ
front_text f names =
    opening_text (height f) ++ STYLE.now ++ part_text f names Time ++ heading_text (top f Steps - 700) f.steps ++ part_text f names Steps ++ instant_text f 0 0

-- the last line of the run
abbrev pub last_text : (y : ℕ) → (last : List ℕ) → List ℕ
last_text y last = codes "<text class=\"last\" x=\"2800\" y=\"" ++ decimal y ++ codes "\">" ++ without_end last ++ codes "</text>\n</svg>\n"

abbrev pub end_text : Frame → (last : List ℕ) → List ℕ
end_text f last = last_text (height f - 250) last
