-- What a frame of code sees, and what an image has at a place.
use Rattle.std.specs.Prelude.{◌≡◌, ℕ, ◌-◌, ℤ, List, map, None, Some, slice_get}
use Rattle.base.specs.declared.schedule.ScheduleLine.{ScheduleLine}
use Rattle.base.specs.declared.limits.TheConstants.{FRAMES}
use Rattle.kernel.specs.State.{Kernel, object_of}
use Rattle.kernel.specs.Worlds.{Solo}
use Rattle.image.specs.Sections.{Sections}
use Rattle.image.specs.Frames.{Words, Frame, TaskState, frames_in_use, region_words}
use Rattle.image.specs.declared.instruction.Operation.{Operation}
use Rattle.image.specs.declared.instruction.Region.{Region}
use Rattle.types.specs.Places.{Place, ceiling_of}

-- the operation that stands at a place, with some depth
abbrev pub At : Sections → ℕ → Operation → Type 0
At i place operation = (depth : ℕ) × (slice_get i.instructions place ≡ Some (record { depth = depth; operation = operation }))

-- a task that runs in this frame above these
abbrev pub in_frame : Words → Frame → List Frame → Solo Words TaskState
in_frame m f fs = record { memory = m; task = record { frame = f; callers = fs; raising = None } }

-- the frame at a place with this operand stack
abbrev pub placed : Frame → ℕ → List ℤ → Frame
placed f place stack = record f { place = place; stack = stack }

-- the frames that the task or handler may still open above these and one more
abbrev pub frames_above : Kernel → ℕ → List Frame → ℕ
frames_above k t fs = FRAMES - frames_in_use k.partition t fs

-- all that the value of an expression may depend on, on the side of code: the inputs and the time, the words of each region, the frames that are left, and what
-- may refuse a call
pub record View : Type 0 where
  pub schedule : List ScheduleLine
  pub now : ℤ
  pub memory : Words
  pub words : Region → List ℤ
  pub left : ℕ
  -- the protected objects whose actions the task has open, its base priority, and the ceiling priorities of objects (RM 9.5.1, D.3)
  pub actions : List ℕ
  pub base : ℕ
  pub ceilings : ℕ → ℕ

-- what a frame of task t sees; neither its place nor its operand stack counts
abbrev pub view_of : Sections → List ScheduleLine → Kernel → ℕ → Words → Frame → List Frame → View
view_of i schedule k t m f fs =
    record {
      schedule = schedule;
      now = k.now;
      memory = m;
      words = λ r. region_words i r m f;
      left = frames_above k t fs;
      actions = map object_of (k.actions t);
      base = k.partition.base t;
      ceilings = k.partition.ceiling;
    }

-- the task that evaluates at the place is that of the frame: it has the same actions open and the same base priority, and objects have the same ceilings
abbrev pub IsSameTask : Place → View → Type 0
IsSameTask p view = (p.actions ≡ view.actions) × (p.priority ≡ view.base) × (ceiling_of p.scope ≡ view.ceilings)

-- what is visible in a part of a program, as a relation of places where expressions are evaluated to what frames see there
abbrev pub Sight : Type 1
Sight = Place → View → Type 0
