-- What a step changes of who runs, who waits and who is inside an object, told by the kernels before and after it.
use Rattle.std.specs.Prelude.{ℕ, zero, suc, List, [], ◌∷◌, ◌++◌, length, Option, Some, None, ℤ, Bool, true, false, not, ◌&&◌, ◌||◌, ◌-ℤ◌, int_lt, unsigned_abs, nat_eq, nat_lt, if◌then◌else◌}
use Rattle.base.specs.declared.schedule.ScheduleLine.{ScheduleLine}
use Rattle.kernel.specs.State as kernel
use Rattle.kernel.specs.State.{Kernel, TaskPlace, IsRunning, IsReady, IsAsleep, IsQueued, IsServed, IsFinished, active, is_object_open, is_task}
use Rattle.image.specs.Code.{CodeWorld}
use Rattle.image.specs.Sections.{Sections}
use Rattle.tasking.specs.Waits.{wake_time}
use Rattle.execution.specs.Ahead.{next_address, next_asking, next_raising}
use Rattle.task_steps.specs.declared.asking.Asking.{Asking}
use Rattle.task_steps.specs.declared.asking.Asking.TheVariants as asks
use Rattle.task_steps.specs.declared.foreseeing.Cause.{Cause}
use Rattle.task_steps.specs.declared.foreseeing.Raising.{Raising}
use Rattle.tracing.specs.Calls.{CallTimes, call_time}
use Rattle.tracing.specs.declared.ahead.Ahead.{Ahead}
use Rattle.tracing.specs.declared.event.Event.{Event}
use Rattle.tracing.specs.declared.event.Event.TheVariants.{Ready, Runs, Refused, Raises, RaisesAtCall, Preempted, GivesWay, Waits, Late, Reads, Wakes, Enters, Leaves, Queues, Served, Returns, HasWaited, Ends, Unhandled, ClockMoves}

-- Throughout, a step leads from kernel k to kernel l, and t is the task that ran.

abbrev pub list_of : {X : Type 0} → Option X → List X
list_of None = []
list_of (Some x) = x ∷ []

-- what is told of the numbers below n, in their order
abbrev pub each : {X : Type 0} → ℕ → (ℕ → Option X) → List X
each zero told = []
each (suc n) told = each n told ++ list_of (told n)

-- the clock moves only where nobody runs or is ready: then each task that runs or is ready after the step has waited for that time
abbrev pub is_later : Kernel → Kernel → Bool
is_later k l = int_lt k.now l.now

-- the end of t, a handler, has delivered the next interrupt, which may be of its own channel (RM C.3.1)
abbrev pub is_followed : Kernel → Kernel → ℕ → Bool
is_followed k l t = not (is_task l.partition t) && nat_lt (length l.pending) (length k.pending)

-- The step, as far as it is known before it is taken

abbrev pub next_ahead : Sections → List ScheduleLine → CodeWorld → Ahead
next_ahead i schedule w = record { address = next_address w; raising = next_raising i schedule w; asking = next_asking i schedule w }

-- Exceptions. Throughout, a is the address of the step's instruction, which what its statement does is reported with

abbrev pub refusal : ℕ → Option ℕ → Option Cause → List Event
refusal t a None = []
refusal t a (Some cause) = Refused t cause a ∷ []

abbrev pub raises : ℕ → Raising → Event
raises t r = if r.is_pending then RaisesAtCall t r.exception r.subprogram r.place else Raises t r.exception r.subprogram r.place

-- by what the step raises, if it raises one; why, where it is refused something, in front of it
abbrev pub raising : ℕ → Option ℕ → Option Raising → List Event
raising t a None = []
raising t a (Some r) = refusal t a r.cause ++ raises t r ∷ []

-- What it asks for: an input, or to wait for a time that has passed

abbrev pub asked : ℕ → (address : Option ℕ) → (now : ℤ) → Option Asking → Option Event
asked t a now None = None
asked t a now (Some (asks.Reads channel value)) = Some (Reads t channel value a)
asked t a now (Some (asks.Waits until)) = if int_lt until now then Some (Late t (unsigned_abs (now -ℤ until)) a) else None

-- Objects

-- by whether t was inside o, and whether it is
abbrev pub crossed : Kernel → ℕ → Option ℕ → ℕ → Bool → Bool → Option Event
crossed l t a o false true = Some (Enters t o (active l t) a)
crossed l t a o true false = Some (Leaves t o (active l t) a)
crossed l t a o _ _ = None

-- a handler that is followed is inside no more: the next one is
abbrev pub crossing : Kernel → Kernel → ℕ → Option ℕ → ℕ → Option Event
crossing k l t a o = crossed l t a o (is_object_open o (k.actions t)) (not (is_followed k l t) && is_object_open o (l.actions t))

-- Callers

-- by where u was, and where it is: only t can have begun or ended the body that is run for its call (RM 9.5.3)
abbrev pub called : ℕ → ℕ → TaskPlace → TaskPlace → Option Event
called t u (IsQueued o) (IsServed p) = Some (Served u o t)
called t u (IsServed o) IsReady = Some (Returns u o)
called t u (IsServed o) IsRunning = Some (Returns u o)
called t u _ _ = None

abbrev pub calling : Kernel → Kernel → ℕ → ℕ → Option Event
calling k l t u = called t u (k.place u) (l.place u)

-- by the time since which u has waited, where it was, and where it is
abbrev pub waited : (now since : ℤ) → ℕ → TaskPlace → TaskPlace → Option Event
waited now since u (IsServed o) IsReady = Some (HasWaited u o (unsigned_abs (now -ℤ since)))
waited now since u (IsServed o) IsRunning = Some (HasWaited u o (unsigned_abs (now -ℤ since)))
waited now since u _ _ = None

abbrev pub having_waited : CallTimes → Kernel → Kernel → ℕ → Option Event
having_waited calls k l u = waited k.now (call_time calls u) u (k.place u) (l.place u)

-- The task that ran

-- by who runs, where t is ready again though the clock hasn't moved
abbrev pub outranked : Kernel → ℕ → Option ℕ → Option Event
outranked l t None = None
outranked l t (Some r) = Some (if nat_lt (active l t) (active l r) then Preempted t r else GivesWay t r)

-- the time that it has asked to wait for: where it sleeps no more, that of the clock, which has moved to it
abbrev pub or_now : ℤ → Option ℤ → ℤ
or_now now None = now
or_now now (Some wake) = wake

abbrev pub waits : Kernel → ℕ → Option ℕ → Event
waits l t a = Waits t (or_now l.now (wake_time t l.sleepers)) a

-- how it gave up the processor, if it did: by whether the clock has moved, and where t is
abbrev pub gave_up : Kernel → ℕ → Option ℕ → Bool → TaskPlace → Option Event
gave_up l t a later IsAsleep = Some (waits l t a)
gave_up l t a later (IsQueued o) = Some (Queues t o a)
gave_up l t a later (IsServed o) = None
gave_up l t a later IsFinished = Some (Ends t)
gave_up l t a true IsRunning = Some (waits l t a)
gave_up l t a false IsRunning = None
gave_up l t a true IsReady = Some (waits l t a)
gave_up l t a false IsReady = outranked l t l.running

-- where it is behind the step
abbrev pub place_left : Kernel → Kernel → ℕ → TaskPlace
place_left k l t = if is_followed k l t then IsFinished else l.place t

-- what has happened when the clock may move: what t raised, what it did, and what that made of callers
abbrev pub until_clock : CallTimes → Ahead → Kernel → Kernel → ℕ → List Event
until_clock calls ahead k l t =
    raising t ahead.address ahead.raising
    ++ list_of (asked t ahead.address k.now ahead.asking)
    ++ each l.partition.objects (crossing k l t ahead.address)
    ++ each l.partition.tasks (calling k l t)
    ++ each l.partition.tasks (having_waited calls k l)
    ++ list_of (gave_up l t ahead.address (is_later k l) (place_left k l t))

-- The clock

abbrev pub clock_moved : Bool → Option Event
clock_moved true = Some ClockMoves
clock_moved false = None

-- by whether it has moved, where u was, and where it is
abbrev pub woken : Bool → ℕ → TaskPlace → TaskPlace → Option Event
woken later u IsAsleep IsReady = Some (Wakes u)
woken later u IsAsleep IsRunning = Some (Wakes u)
woken true u IsRunning IsReady = Some (Wakes u)
woken true u IsRunning IsRunning = Some (Wakes u)
woken _ u _ _ = None

abbrev pub waking : Kernel → Kernel → ℕ → Option Event
waking k l u = woken (is_later k l) u (k.place u) (l.place u)

-- Who runs

abbrev pub runs_now : Kernel → ℕ → Event
runs_now l r = Runs r (active l r)

-- nothing is told where t runs on, and not anew
abbrev pub dispatched : Kernel → ℕ → Bool → Option ℕ → Option Event
dispatched l t anew None = None
dispatched l t true (Some r) = Some (runs_now l r)
dispatched l t false (Some r) = if nat_eq r t then None else Some (runs_now l r)

abbrev pub stopped : Option kernel.Outcome → Option Event
stopped (Some (kernel.Unhandled x u)) = Some (Unhandled u x)
stopped _ = None

-- and then: the clock moves, those due wake, told in the order of their numbers, and the highest runs
abbrev pub since_clock : Kernel → Kernel → ℕ → List Event
since_clock k l t =
    list_of (clock_moved (is_later k l))
    ++ each l.partition.tasks (waking k l)
    ++ list_of (dispatched l t (is_later k l || is_followed k l t) l.running)
    ++ list_of (stopped l.outcome)

-- At the start all tasks are ready, in order of declaration, and the highest runs (RM 9.2, D.2.1)

abbrev pub ready : ℕ → Option Event
ready u = Some (Ready u)

abbrev pub first_runs : Kernel → Option ℕ → Option Event
first_runs k None = None
first_runs k (Some r) = Some (runs_now k r)

abbrev pub starts : Kernel → List Event
starts k = each k.partition.tasks ready ++ list_of (first_runs k k.running)
