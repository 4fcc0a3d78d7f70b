-- The next step of a run: the address of its instruction, the exception that it raises, what it asks for beside the operation of an object, and the frames of
-- who takes it.
use Rattle.std.specs.Prelude.{ℕ, List, length, Option, Some, None}
use Rattle.base.specs.declared.schedule.ScheduleLine.{ScheduleLine}
use Rattle.kernel.specs.State.{Outcome}
use Rattle.kernel.specs.Worlds.{solo_of}
use Rattle.image.specs.Code.{CodeWorld}
use Rattle.image.specs.Frames.{TaskState}
use Rattle.image.specs.Sections.{Sections}
use Rattle.processor.specs.Layout.{words_in_use}
use Rattle.task_steps.specs.Asked.{asking_ahead}
use Rattle.task_steps.specs.Raised.{raising_ahead}
use Rattle.task_steps.specs.declared.asking.Asking.{Asking}
use Rattle.task_steps.specs.declared.foreseeing.Raising.{Raising}
use Rattle.execution.specs.declared.frame_use.FrameUse.{FrameUse}

-- by the outcome, and who runs
abbrev pub raising_by : Sections → List ScheduleLine → CodeWorld → Option Outcome → Option ℕ → Option Raising
raising_by i schedule w (Some o) running = None
raising_by i schedule w None None = None
raising_by i schedule w None (Some t) = raising_ahead i schedule w.kernel t (solo_of t w.rest)

abbrev pub next_raising : Sections → List ScheduleLine → CodeWorld → Option Raising
next_raising i schedule w = raising_by i schedule w w.kernel.outcome w.kernel.running

abbrev pub asking_by : Sections → List ScheduleLine → CodeWorld → Option Outcome → Option ℕ → Option Asking
asking_by i schedule w (Some o) running = None
asking_by i schedule w None None = None
asking_by i schedule w None (Some t) = asking_ahead i schedule w.kernel t (solo_of t w.rest).task

abbrev pub next_asking : Sections → List ScheduleLine → CodeWorld → Option Asking
next_asking i schedule w = asking_by i schedule w w.kernel.outcome w.kernel.running

-- the address of the instruction of the frame that runs, by the outcome, and who runs
abbrev pub address_by : CodeWorld → Option Outcome → Option ℕ → Option ℕ
address_by w (Some o) running = None
address_by w None None = None
address_by w None (Some t) = Some (w.rest.tasks t).frame.place

abbrev pub next_address : CodeWorld → Option ℕ
next_address w = address_by w w.kernel.outcome w.kernel.running

-- what a task has of frames
abbrev pub frame_use : TaskState → FrameUse
frame_use s = record { below = length s.callers; words = words_in_use s }

-- what who runs has of frames, by the frames of all, the outcome, and who runs
abbrev pub frames_by : (tasks : ℕ → TaskState) → Option Outcome → Option ℕ → Option FrameUse
frames_by tasks (Some o) running = None
frames_by tasks None None = None
frames_by tasks None (Some t) = Some (frame_use (tasks t))

abbrev pub next_frames : CodeWorld → Option FrameUse
next_frames w = frames_by w.rest.tasks w.kernel.outcome w.kernel.running
