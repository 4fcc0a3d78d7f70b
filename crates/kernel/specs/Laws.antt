-- The laws of the kernel, as statements; each is the contract of a public function.
use Rattle.std.specs.Prelude.{◌≡◌, ◌≢◌, ◌⊎◌, ℕ, suc, ◌<◌, ◌≤◌, ◌++◌, List, [], ◌∷◌, ℤ, pos, int_le, int_lt, ◌&&◌, Option, Some, None, Bool, true, false}
use Rattle.base.specs.declared.limits.TheConstants.{CHANNELS, PRIORITIES}
use Rattle.base.specs.declared.schedule.ScheduleLine.{ScheduleLine}
use Rattle.base.specs.Schedule.{are_ordered_from}
use Rattle.kernel.specs.State.{Partition, Interrupt, Kernel, IsQueued, IsServed, IsFinished, Action, Writes, Serves, Line, actor, active, inside, put}
use Rattle.kernel.specs.Dispatching.{dispatch}
use Rattle.kernel.specs.Interrupts.{interrupts_of}
use Rattle.kernel.specs.Clock.{clock}
use Rattle.kernel.specs.Effects.{Effect, Quiet, Says, Opens, Views, Ends, TakesOver, HandsBack, is_inside_any, is_above_ceiling, call_refusal, effect, done, after, blank, activated, begin}
use Rattle.kernel.specs.Worlds.{ending, is_handler_over}
use Rattle.kernel.specs.Calm.{IsRunner, Calm}
use Rattle.kernel.specs.Invariant.{Sound, Served, AreAttached, HandlesWithin, Kept, Fits, Passed, IsBarrierHeld}
use Rattle.kernel.specs.Exclusion.{StandsIn, IsInside, IsInAction, FourStatements}

-- The invariant

abbrev pub BeginsKept : Type 0
BeginsKept = (barrier : ℕ → Bool) (p : Partition) (interrupts : List Interrupt) → Fits p → AreAttached p interrupts → Kept barrier (begin p interrupts)

abbrev pub KeptByEvery : Type 0
KeptByEvery = (before later : ℕ → Bool) (k : Kernel) (t : ℕ) (e : Effect) → k.running ≡ Some t → IsBarrierHeld before later k t → Passed later k t e
    → Kept before k → Kept later (after t e k)

abbrev pub FourHold : Type 0
FourHold = (barrier : ℕ → Bool) (k : Kernel) → Kept barrier k → FourStatements barrier k

-- the kernels, with the barriers, that steps whose refusals were passed can lead to, whatever code takes them
pub data Course (p : Partition) (interrupts : List Interrupt) : (ℕ → Bool) → Kernel → Type 0 where
  Starts : (barrier : ℕ → Bool) → Course p interrupts barrier (begin p interrupts)
  Goes : (before later : ℕ → Bool) (k : Kernel) (t : ℕ) (e : Effect) → Course p interrupts before k → k.running ≡ Some t → IsBarrierHeld before later k t
      → Passed later k t e → Course p interrupts later (after t e k)

abbrev pub FourAlways : Type 0
FourAlways = (p : Partition) (interrupts : List Interrupt) (barrier : ℕ → Bool) (k : Kernel) → Fits p → AreAttached p interrupts
    → Course p interrupts barrier k → FourStatements barrier k

-- the list of the tasks and handlers inside an object has just those
abbrev pub InsideLists : Type 0
InsideLists = (k : Kernel) (o t : ℕ) → (StandsIn (inside k o) t → (t < suc (actor k.partition CHANNELS)) × IsInside k o t)
    × (t < suc (actor k.partition CHANNELS) → IsInside k o t → StandsIn (inside k o) t)

-- Dispatching and the clock

abbrev pub DispatchedOnce : Type 0
DispatchedOnce = (barrier : ℕ → Bool) (k : Kernel) → Sound barrier k [] → dispatch (dispatch k) ≡ dispatch k

abbrev pub ClockedOnce : Type 0
ClockedOnce = (barrier : ℕ → Bool) (k : Kernel) → Sound barrier k [] → Served k.place k.actions → HandlesWithin k
    → clock (dispatch (clock (dispatch k))) ≡ clock (dispatch k)

abbrev pub StandsStill : Type 0
StandsStill = (barrier : ℕ → Bool) (k : Kernel) → Kept barrier k → (dispatch k ≡ k) × (clock k ≡ k)

-- what belongs to a task's calls and to the output is changed by the effect alone; an interrupt opens the action of its handler
pub record Unmoved (l k : Kernel) : Type 0 where
  pub partition : l.partition ≡ k.partition
  pub queued : l.queued ≡ k.queued
  pub actions : (t : ℕ) → t < k.partition.tasks → l.actions t ≡ k.actions t
  pub lines : l.lines ≡ k.lines

abbrev pub LeftUnmoved : Type 0
LeftUnmoved = (k : Kernel) → Unmoved (clock (dispatch k)) k

-- an interrupt is delivered from kernel k on: it is pending no more, and the action of its handler is open, which had none open
pub record HandlerBegins (k l : Kernel) (i : Interrupt) : Type 0 where
  pub first : k.pending ≡ i ∷ l.pending
  pub idle : k.actions (actor k.partition i.channel) ≡ []
  pub actions : l.actions ≡ put (actor k.partition i.channel) (Writes i.object ∷ []) k.actions

-- dispatching, the clock and the going of a handler, from kernel k on, leave open actions and pending interrupts as they are, or one handler begins
pub record SettlesTo (k l : Kernel) : Type 0 where
  pub partition : l.partition ≡ k.partition
  pub queued : l.queued ≡ k.queued
  pub actions : ((l.pending ≡ k.pending) × (l.actions ≡ k.actions)) ⊎ ((i : Interrupt) × HandlerBegins k l i)

abbrev pub StepsSettle : Type 0
StepsSettle = (before later : ℕ → Bool) (k : Kernel) (t : ℕ) (e : Effect) → k.running ≡ Some t → IsBarrierHeld before later k t → Passed later k t e
    → Kept before k → SettlesTo (done t e k) (after t e k)

abbrev pub StartSettles : Type 0
StartSettles = (p : Partition) (interrupts : List Interrupt) → Fits p → AreAttached p interrupts
    → SettlesTo (activated p.tasks (blank p interrupts)) (begin p interrupts)

abbrev pub LinesGrow : Type 0
LinesGrow = (t : ℕ) (e : Effect) (k : Kernel) → (more : List Line) × ((after t e k).lines ≡ k.lines ++ more)

-- The running task

abbrev pub SomebodyRuns : Type 0
SomebodyRuns = (barrier : ℕ → Bool) (k : Kernel) → Kept barrier k → k.outcome ≡ None → (t : ℕ) × IsRunner k t

-- where nobody runs, nobody is ready
abbrev pub NobodyReady : Type 0
NobodyReady = (barrier : ℕ → Bool) (k : Kernel) → Kept barrier k → k.running ≡ None → (h : ℕ) → k.ready h ≡ []

abbrev pub RunnerIsCalm : Type 0
RunnerIsCalm = (barrier : ℕ → Bool) (k : Kernel) (t : ℕ) → Kept barrier k → IsRunner k t → Calm k t

abbrev pub QuietStays : Type 0
QuietStays = (k : Kernel) (t : ℕ) → Calm k t → after t Quiet k ≡ k

abbrev pub SaysOn : Type 0
SaysOn = (k : Kernel) (t : ℕ) (label : List ℕ) (value : ℤ) → Calm k t → (after t (Says label value) k ≡ effect t (Says label value) k)
    × Calm (effect t (Says label value) k) t

abbrev pub OpensOn : Type 0
OpensOn = (k : Kernel) (t o : ℕ) → Calm k t → (after t (Opens o) k ≡ effect t (Opens o) k) × Calm (effect t (Opens o) k) t

abbrev pub ViewsOn : Type 0
ViewsOn = (k : Kernel) (t o : ℕ) → Calm k t → (after t (Views o) k ≡ effect t (Views o) k) × Calm (effect t (Views o) k) t

-- a function's action, opened and closed, leaves the kernel as it was
abbrev pub ViewsBack : Type 0
ViewsBack = (k : Kernel) (t o : ℕ) (is_open : Bool) → Calm k t → after t (Ends is_open) (after t (Views o) k) ≡ k

-- Interrupts

-- an actor that is there runs, within an action and at the highest priority: no task runs before its end
pub record IsHandling (k : Kernel) (u : ℕ) : Type 0 where
  pub running : k.running ≡ Some u
  pub within : IsInAction k u
  pub highest : suc (active k u) ≡ PRIORITIES

abbrev pub HandlersRun : Type 0
HandlersRun = (barrier : ℕ → Bool) (k : Kernel) (u : ℕ) → Kept barrier k → k.partition.tasks ≤ u → k.place u ≢ IsFinished → IsHandling k u

-- a step delivers no interrupt, or the first that is pending, once: its time has come, and its handler runs
pub record Delivers (k l : Kernel) (i : Interrupt) : Type 0 where
  pub first : k.pending ≡ i ∷ l.pending
  pub due : int_lt l.now i.time ≡ false
  pub handled : l.running ≡ Some (actor l.partition i.channel)

abbrev pub DeliversOnce : Type 0
DeliversOnce = (before later : ℕ → Bool) (k : Kernel) (t : ℕ) (e : Effect) → k.running ≡ Some t → IsBarrierHeld before later k t → Passed later k t e
    → Kept before k → ((after t e k).pending ≡ k.pending) ⊎ ((i : Interrupt) × Delivers k (after t e k) i)

-- a handler runs on in each step that is not its end
abbrev pub HandlersGoOn : Type 0
HandlersGoOn = (before later : ℕ → Bool) (k : Kernel) (t : ℕ) (e : Effect) → k.running ≡ Some t → k.partition.tasks ≤ t → IsBarrierHeld before later k t
    → Passed later k t e → Kept before k → is_handler_over k t e ≡ false → (after t e k).running ≡ Some t

-- interrupts in the order of their times, none of them before a time
abbrev pub are_in_order : ℤ → List Interrupt → Bool
are_in_order time [] = true
are_in_order time (i ∷ is) = int_le time i.time && are_in_order i.time is

-- the lines of a schedule give interrupts in order
abbrev pub SchedulesInOrder : Type 0
SchedulesInOrder = (attached : ℕ → Option ℕ) (time : ℤ) (lines : List ScheduleLine) → are_ordered_from time lines ≡ true
    → are_in_order time (interrupts_of attached lines) ≡ true

-- so the first that is pending is the earliest, and the clock passes none
abbrev pub NonePassed : Type 0
NonePassed = (p : Partition) (interrupts : List Interrupt) (barrier : ℕ → Bool) (k : Kernel) → are_in_order (pos 0) interrupts ≡ true
    → Course p interrupts barrier k → are_in_order k.now k.pending ≡ true

-- Calls

-- an entry call that nothing refuses may open the action
abbrev pub EntryOpens : Type 0
EntryOpens = (k : Kernel) (t o : ℕ) → is_inside_any k t ≡ false → is_above_ceiling k t o ≡ false → call_refusal k t o ≡ None

-- the end of an action reaches the caller that waits in the queue of its object, or the one that it has served, and never the task itself
pub record Reaches (k : Kernel) (t : ℕ) (e : Effect) : Type 0 where
  pub queued : (o u : ℕ) → ending k t e ≡ TakesOver o u → (k.queued o ≡ Some u) × (k.place u ≡ IsQueued o) × (u ≢ t)
  pub served : (u : ℕ) → ending k t e ≡ HandsBack u → (o : ℕ) × (k.place u ≡ IsServed o) × (u ≢ t)

abbrev pub ReachesCallers : Type 0
ReachesCallers = (barrier : ℕ → Bool) (k : Kernel) (t : ℕ) (e : Effect) → k.running ≡ Some t → Kept barrier k → Reaches k t e

-- while a body is run for a queued caller, the caller waits for it and no other call is queued at its object: one service an action
abbrev pub OneService : Type 0
OneService = (barrier : ℕ → Bool) (k : Kernel) (t o u : ℕ) (outer : List Action) → k.actions t ≡ Serves o u ∷ outer → Kept barrier k
    → (k.place u ≡ IsServed o) × (k.queued o ≡ None)
