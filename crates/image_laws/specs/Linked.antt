-- What holds between the frames of tasks and the kernel in every world of a well-formed image; nobody has to believe this.
use Rattle.std.specs.Prelude.{◌≡◌, ℕ, ◌+◌, ◌≤◌, Bool, true, false, List, [], ◌∷◌, length, Option, Some, None, slice_get}
use Rattle.base.specs.declared.limits.TheConstants.{FRAMES}
use Rattle.kernel.specs.State.{Action, Interrupt, Reads, Writes, Serves}
use Rattle.kernel.specs.Effects.{Effect, Opens, Views, Queues, Ends, outer_of}
use Rattle.kernel.specs.Invariant.{CanWrite, HasAction, ServesCall}
use Rattle.image.specs.Sections.{Sections, object_of, writes_object}
use Rattle.image.specs.Operations.{called, entry_called, entry_of, results_of}
use Rattle.image.specs.Frames.{Role, Inner, Opened, Serving, Frame, TaskState, frames_counted, kind_of}
use Rattle.image.specs.Attachments.{handling_object}
use Rattle.image.specs.Code.{initial_state}
use Rattle.image.specs.Steps.{Given, Results, Raised}
use Rattle.image_laws.specs.Shape.{AreBelow, IsGoing, IsImageTask, IsSound, IsWaiting, MayRun, is_own}
use Rattle.image.specs.declared.instruction.Operation.TheVariants.{EntryCall}
use Rattle.image.specs.declared.subprograms.Kind.{Kind}
use Rattle.image.specs.declared.subprograms.Kind.TheVariants.{Plain, ProtectedProcedure, ProtectedFunction, EntryBody, TaskBody}

abbrev pub kind_at : Sections → Frame → Kind
kind_at i f = kind_of (called i f.subprogram)

abbrev pub opened_by : Kind → ℕ → Action
opened_by (ProtectedFunction p) o = Reads o
opened_by (ProtectedProcedure p) o = Writes o
opened_by (EntryBody p) o = Writes o
opened_by Plain o = Writes o
opened_by TaskBody o = Writes o

-- the actions that a frame and those below it are in
abbrev pub with_action : Role → Kind → List Action → List Action
with_action Inner kind outer = outer
with_action (Opened o) kind outer = opened_by kind o ∷ outer
with_action (Serving o u pending) kind outer = Serves o u ∷ outer

-- the open actions of a task by its frames, the innermost first
abbrev pub actions_of : Sections → List Frame → List Action
actions_of i [] = []
actions_of i (f ∷ fs) = with_action f.role (kind_at i f) (actions_of i fs)

abbrev pub frames_of : TaskState → List Frame
frames_of s = s.frame ∷ s.callers

-- a frame that may write an object's words is in an action that may
abbrev pub MayWrite : Sections → List Frame → Type 0
MayWrite i [] = Unit {0}
MayWrite i (f ∷ fs) =
    ((o : ℕ) → object_of (kind_at i f) ≡ Some o → writes_object (kind_at i f) ≡ true → HasAction (CanWrite o) (actions_of i (f ∷ fs))) × MayWrite i fs

-- the actions of the running task after its step, by the effect, unless it takes a queued call over
abbrev pub next_actions : Effect → List Action → List Action
next_actions (Opens o) actions = Writes o ∷ actions
next_actions (Views o) actions = Reads o ∷ actions
next_actions (Ends is_open) actions = outer_of actions
next_actions _ actions = actions

-- the task stands at an entry call of the object, its parameters on the operand stack
pub record IsCalling (i : Sections) (own : Bool) (o : ℕ) (s : TaskState) : Type 0 where
  pub few : frames_counted own s.callers ≤ FRAMES
  pub going : IsGoing i s.frame
  pub at_call : going.x.operation ≡ EntryCall o
  pub quiet : s.raising ≡ None
  pub below : AreBelow i own s.frame.role s.frame.subprogram s.callers
  pub may : MayRun own s.callers

-- the task waits at an entry call of the object, whose parameters were taken
pub record IsAwaiting (i : Sections) (own : Bool) (o : ℕ) (s : TaskState) : Type 0 where
  pub few : frames_counted own s.callers ≤ FRAMES
  pub n : ℕ
  pub entry : entry_of (slice_get i.objects o) ≡ Some n
  pub waiting : IsWaiting i n s.frame
  pub quiet : s.raising ≡ None
  pub below : AreBelow i own s.frame.role s.frame.subprogram s.callers
  pub may : MayRun own s.callers

-- as many results as the entry of the object has
abbrev pub FitsEntry : Sections → ℕ → Given → Type 0
FitsEntry i o (Results words) = length words ≡ results_of (entry_called i o)
FitsEntry i o (Raised x) = Unit {0}

-- who ends a service gives something to the caller
abbrev pub Fitting : Sections → List Action → Option Given → Type 0
Fitting i (Serves o u ∷ outer) (Some g) = FitsEntry i o g
Fitting i (Serves o u ∷ outer) None = ⊥
Fitting i (Reads o ∷ outer) g = Unit {0}
Fitting i (Writes o ∷ outer) g = Unit {0}
Fitting i [] g = Unit {0}

-- a queued caller stands at its call; who ends an action has room for one more frame, and gives what the end of a service owes
abbrev pub OwesFor : Sections → (own : Bool) → List Action → Effect → Option Given → TaskState → Type 0
OwesFor i own actions (Queues o) g s = IsCalling i own o s
OwesFor i own actions (Ends b) g s = (frames_counted own s.callers + 1 ≤ FRAMES) × Fitting i actions g
OwesFor i own actions _ g s = Unit {0}

-- who is served by somebody, by the actions of all
abbrev pub IsServedIn : (ℕ → List Action) → ℕ → Type 0
IsServedIn actions u = (t : ℕ) × (o : ℕ) × HasAction (ServesCall o u) (actions t)

-- a handler that has not begun
abbrev pub IsGone : Sections → (ℕ → List Action) → ℕ → Type 0
IsGone i actions t = (is_own i t ≡ false) × (actions t ≡ [])

-- open actions, queued calls and the states of tasks and handlers fit together; a handler that has not begun holds what its start needs
pub record IsLinked (i : Sections) (actions : ℕ → List Action) (queued : ℕ → Option ℕ) (tasks : ℕ → TaskState) : Type 0 where
  pub by_frames : (t : ℕ) → (IsGone i actions t → ⊥) → actions t ≡ actions_of i (frames_of (tasks t))
  pub gone : (t : ℕ) → IsGone i actions t → tasks t ≡ initial_state i t
  pub may : (t : ℕ) → IsImageTask i t → MayWrite i (frames_of (tasks t))
  pub sound : (u : ℕ) → IsImageTask i u → (IsServedIn actions u → ⊥) → IsSound i (is_own i u) (tasks u)
  pub calling : (o u : ℕ) → queued o ≡ Some u → IsCalling i (is_own i u) o (tasks u)
  pub awaiting : (t o u : ℕ) → HasAction (ServesCall o u) (actions t) → IsAwaiting i (is_own i u) o (tasks u)

-- the object of each pending interrupt is that of its channel's handler
abbrev pub AreHandled : Sections → List Interrupt → Type 0
AreHandled i [] = Unit {0}
AreHandled i (x ∷ xs) = (handling_object i x.channel ≡ Some x.object) × AreHandled i xs
