-- What tasks hold at the start, and handlers of interrupts at each of their starts.
use Rattle.std.specs.Prelude.{ℕ, ◌-◌, pos, replicate, [], ◌∷◌, length, Option, Some, None, nat_lt, slice_get, if◌then◌else◌}
use Rattle.image.specs.Sections.{Sections, first_place, object_of}
use Rattle.image.specs.Operations.{called}
use Rattle.image.specs.Frames.{Role, Inner, Opened, Frame, TaskState, kind_of}
use Rattle.image.specs.Attachments.{attached_to}
use Rattle.image.specs.declared.subprograms.Subprogram.{Subprogram}
use Rattle.image.specs.declared.tasks.Task.{Task}

-- the frame of a subprogram at its first instruction, its locals 0
abbrev pub body_frame : Sections → ℕ → Option Subprogram → Frame
body_frame i n None = record { subprogram = n; place = 0; locals = []; stack = []; role = Inner }
body_frame i n (Some s) = record { subprogram = n; place = first_place i n; locals = replicate s.locals (pos 0); stack = []; role = Inner }

abbrev pub body_of : Option Task → ℕ
body_of None = 0
body_of (Some t) = t.subprogram

-- a task: the frame of its body alone
abbrev pub task_state : Sections → ℕ → TaskState
task_state i t = let n = body_of (slice_get i.tasks t) in record { frame = body_frame i n (called i n); callers = []; raising = None }

abbrev pub role_within : Option ℕ → Role
role_within None = Inner
role_within (Some o) = Opened o

-- a frame of no subprogram
abbrev pub lowest_frame : Sections → Frame
lowest_frame i = record { subprogram = length i.subprograms; place = 0; locals = []; stack = []; role = Inner }

-- a handler: the frame of its procedure, which has opened the action of its object, above a frame that never runs and counts for nothing
abbrev pub handler_state_of : Sections → Option ℕ → TaskState
handler_state_of i None = record { frame = lowest_frame i; callers = []; raising = None }
handler_state_of i (Some n) =
    let f = body_frame i n (called i n) in
    record { frame = record f { role = role_within (object_of (kind_of (called i n))) }; callers = lowest_frame i ∷ []; raising = None }

abbrev pub handler_state : Sections → ℕ → TaskState
handler_state i channel = handler_state_of i (attached_to channel i.attachments)

-- by the numbers of tasks, and of the actors of channels beyond them
abbrev pub initial_state : Sections → ℕ → TaskState
initial_state i t = if nat_lt t (length i.tasks) then task_state i t else handler_state i (t - length i.tasks)
