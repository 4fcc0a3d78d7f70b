-- What is drawn of one step, by what the machine's step has reported; contracts within the crate name it.
use Rattle.std.specs.Prelude.{ℕ, List, [], ◌∷◌, ◌++◌, Option, Some, None, unsigned_abs}
use Rattle.base.specs.declared.schedule.ScheduleLine.{ScheduleLine}
use Rattle.kernel.specs.State.{Kernel}
use Rattle.kernel.specs.Text.{Names}
use Rattle.machine.specs.declared.reports.Event.{Event}
use Rattle.machine.specs.declared.reports.Event.TheVariants as reported
use Rattle.tracing.specs.Calls.{CallTimes}
use Rattle.tracing.specs.Changes.{since_clock, starts, until_clock}
use Rattle.tracing.specs.Traces.{lines_come, without_end}
use Rattle.tracing.specs.declared.ahead.Ahead.{Ahead}
use Rattle.pictures.specs.Text.{PictureNames, events_text, flag_text, input_text}
use Rattle.pictures.specs.declared.frame.Frame.{Frame}

-- the flag of the line that was reported, if one was
abbrev pub reported_text : Frame → Names → (task : ℕ) → (time step : ℕ) → Event → List ℕ
reported_text f names t time step (reported.Line text) = flag_text f names t (without_end text.items) time step
reported_text f names t time step _ = []

abbrev pub inputs_text : Frame → (step : ℕ) → List ScheduleLine → List ℕ
inputs_text f step [] = []
inputs_text f step (x ∷ xs) = input_text f x step ++ inputs_text f step xs

abbrev pub step_text : Frame → PictureNames → List ScheduleLine → CallTimes → Ahead → Kernel → Kernel → ℕ → Event → Option ℕ → List ℕ
step_text f names schedule calls ahead k l step shown None = []
step_text f names schedule calls ahead k l step shown (Some t) =
    reported_text f names.line t (unsigned_abs k.now) step shown
    ++ events_text f names (unsigned_abs k.now) step (until_clock calls ahead k l t)
    ++ inputs_text f step (lines_come (Some k.now) l.now schedule)
    ++ events_text f names (unsigned_abs l.now) step (since_clock k l t)

abbrev pub start_text : Frame → PictureNames → List ScheduleLine → Kernel → List ℕ
start_text f names schedule k = inputs_text f 0 (lines_come None k.now schedule) ++ events_text f names (unsigned_abs k.now) 0 (starts k)
