-- The picture of a run, byte for byte (docs/FORMATS.md, "Pictures").
use Rattle.std.specs.Prelude.{ℕ, List, ◌++◌, length, unsigned_abs}
use Rattle.base.specs.declared.schedule.ScheduleLine.{ScheduleLine}
use Rattle.image.specs.Code.{code}
use Rattle.image.specs.Sections.{Sections}
use Rattle.image.specs.Texts.{names_of}
use Rattle.machine.specs.Bounds.{cut_line}
use Rattle.machine.specs.Taken.{steps_taken}
use Rattle.machine.specs.declared.bound.Bound.{Bound}
use Rattle.tracing.specs.Traces.{rows}
use Rattle.pictures.specs.Frames.{frame_of}
use Rattle.pictures.specs.Front.{end_text, front_text}
use Rattle.pictures.specs.Text.{picture_names, rows_text}
use Rattle.pictures.specs.declared.frame.Frame.{Frame}

-- how large it is: the run determines its frame
abbrev pub frame : Sections → List ScheduleLine → (steps : ℕ) → Frame
frame i schedule steps =
    frame_of (length i.tasks) (length i.objects) (unsigned_abs (code i schedule steps).kernel.now) (steps_taken i schedule steps)

-- the picture of a run within a bound, where protected objects have these names: what is drawn of each row of the trace, and the last line of the run
abbrev pub picture_text : Sections → (names : List (List ℕ)) → List ScheduleLine → Bound → List ℕ
picture_text i names schedule bound =
    let k = (code i schedule bound.steps).kernel in
    let f = frame i schedule bound.steps in
    front_text f (picture_names i names)
    ++ rows_text f (picture_names i names) (rows i schedule bound.steps)
    ++ end_text f (cut_line bound.cut (names_of i) k.outcome k.now)
