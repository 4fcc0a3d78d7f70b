-- Where things are in a picture, in tenths of a pixel from its left and from its upper edge.
use Rattle.std.specs.Prelude.{ℕ, ◌+◌, ◌*◌, ◌/◌, max, min, nat_lt, if◌then◌else◌}
use Rattle.pictures.specs.declared.frame.Axis.{Axis}
use Rattle.pictures.specs.declared.frame.Axis.TheVariants.{Time, Steps}
use Rattle.pictures.specs.declared.frame.Frame.{Frame}
use Rattle.pictures.specs.declared.frame.Row.{Row}
use Rattle.pictures.specs.declared.frame.Row.TheVariants.{Actor, Object, Inputs}
use Rattle.pictures.specs.declared.frame.TheConstants.{GAP, LEFT, ROW, STEPS, TOP, WIDTH}

-- that of a run of so many tasks and objects, up to this time (in microseconds) and so many steps: of the steps, the first STEPS are drawn
abbrev pub frame_of : (tasks objects time steps : ℕ) → Frame
frame_of tasks objects time steps = record { tasks = tasks; objects = objects; time = max time 1; steps = max (min steps STEPS) 1 }

-- each part has a row for each task, for each object, and for the lines of the schedule and the handlers of their interrupts
abbrev pub rows : Frame → ℕ
rows f = f.tasks + f.objects + 1

abbrev pub row_number : Frame → Row → ℕ
row_number f (Actor t) = if nat_lt t f.tasks then t else f.tasks + f.objects
row_number f (Object o) = f.tasks + o
row_number f Inputs = f.tasks + f.objects

-- where the rows of a part begin
abbrev pub top : Frame → Axis → ℕ
top f Time = TOP
top f Steps = TOP + rows f * ROW + GAP

abbrev pub bottom : Frame → Axis → ℕ
bottom f axis = top f axis + rows f * ROW

abbrev pub y_of : Frame → Axis → (row offset : ℕ) → ℕ
y_of f axis row offset = top f axis + row * ROW + offset

-- how far the axis goes: in microseconds or in steps
abbrev pub span : Frame → Axis → ℕ
span f Time = f.time
span f Steps = f.steps

-- in proportion
abbrev pub x_of : Frame → Axis → ℕ → ℕ
x_of f axis at = LEFT + at * WIDTH / span f axis
