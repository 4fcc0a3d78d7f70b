-- What the kernel's code keeps at all times: priorities are in range, each task runs, is ready or sleeps once at most, and a handler only runs.
use Rattle.std.specs.Prelude.{◌≡◌, ◌⊎◌, ℕ, zero, suc, ◌+◌, ◌<◌, ◌≤◌, ℤ, int_lt, List, [], ◌∷◌, get_or, length, Bool, false, not, ◌&&◌, nat_eq, nat_lt, Option, Some, None}
use Rattle.std.specs.Prelude.{if◌then◌else◌}
use Rattle.base.specs.declared.limits.TheConstants.{CHANNELS, OBJECTS, PRIORITIES, TASKS}
use Rattle.base.specs.declared.schedule.ScheduleLine.{ScheduleLine}
use Rattle.kernel.specs.State.{Interrupt, Kernel, Sleeper, Writes, is_task}
use Rattle.kernel.specs.Effects.{is_inside_any}
use Rattle.kernel.specs.Dispatching.{becomes_ready}
use Rattle.kernel.specs.Clock.{least}
use Rattle.kernel.specs.Invariant.{AreAttached, count, naps}
use Rattle.tasking.specs.declared.reports.Ending.{Ending as Left}
use Rattle.tasking.specs.declared.reports.Ending.TheVariants as endings
use Rattle.tasking.specs.Held.{Held, innermost, kernel_of, kinds_at, partition_of, pending_of}

abbrev pub runs_as : ℕ → Option ℕ → ℕ
runs_as t None = 0
runs_as t (Some r) = if nat_eq t r then 1 else 0

-- how often a task stands in the lists of the first n priorities
unfoldable pub listings : ℕ → ℕ → (ℕ → List ℕ) → ℕ
listings zero t ready = 0
listings (suc n) t ready = listings n t ready + count t (ready n)

-- how often a task runs, is ready or sleeps
abbrev pub standing : Kernel → ℕ → ℕ
standing k t = runs_as t k.running + listings PRIORITIES t k.ready + naps t k.sleepers

abbrev pub IsNowhere : Kernel → ℕ → Type 0
IsNowhere k t = standing k t ≡ 0

abbrev pub IsTask : Kernel → ℕ → Type 0
IsTask k t = t < k.partition.tasks

-- a task, or the handler that runs
abbrev pub StandsThere : Kernel → ℕ → Type 0
StandsThere k t = IsTask k t ⊎ (k.running ≡ Some t)

-- whether the highest list stands above a priority
abbrev pub is_above : ℕ → Option ℕ → Bool
is_above active None = false
is_above active (Some h) = nat_lt active h

abbrev pub once : Kernel → ℕ → ℕ
once k t = if nat_lt t k.partition.tasks then 1 else runs_as t k.running

-- a number that no task has is neither ready nor asleep
abbrev pub IsOrderly : Kernel → Type 0
IsOrderly k = ((t : ℕ) → k.partition.base t < PRIORITIES) × ((o : ℕ) → k.partition.ceiling o < PRIORITIES) × ((t : ℕ) → standing k t ≤ once k t)

-- the sleepers that a time wakes, and those that sleep on
abbrev pub due : ℤ → List Sleeper → List ℕ
due now [] = []
due now (s ∷ ss) = if int_lt now s.wake then due now ss else s.task ∷ due now ss

abbrev pub waiting : ℤ → List Sleeper → List Sleeper
waiting now [] = []
waiting now (s ∷ ss) = if int_lt now s.wake then s ∷ waiting now ss else waiting now ss

abbrev pub least_of : List Sleeper → Option ℤ
least_of [] = None
least_of (s ∷ ss) = Some (least s.wake ss)

-- tasks that wake now, each once, and nowhere as yet
abbrev pub AreAwoken : Kernel → List ℕ → Type 0
AreAwoken k tasks = (t : ℕ) → standing k t + count t tasks ≤ once k t

-- they become ready in order
abbrev pub all_ready : List ℕ → Kernel → Kernel
all_ready [] k = k
all_ready (t ∷ ts) k = all_ready ts (becomes_ready t k)

-- an entry body that is begun is of an object that there is
abbrev pub IsOfObject : Kernel → Left → Type 0
IsOfObject k endings.Closes = Unit {0}
IsOfObject k (endings.TakesOver o u) = o < k.partition.objects
IsOfObject k (endings.HandsBack u) = Unit {0}

-- the innermost action of t may end so
abbrev pub MayEnd : Kernel → ℕ → Left → Type 0
MayEnd k t endings.Closes = Unit {0}
MayEnd k t (endings.TakesOver o u) = (innermost (k.actions t) ≡ Some (Writes o)) × IsTask k u × (o < k.partition.objects)
MayEnd k t (endings.HandsBack u) = IsTask k u × IsNowhere k u

-- the rows of fixed length
pub record AreRows (h : Held) : Type 0 where
  pub few_tasks : length h.objects.bases ≤ TASKS
  pub few_objects : length h.objects.ceilings ≤ OBJECTS
  pub queues : length h.objects.queued ≡ OBJECTS
  pub opened : length h.objects.opened ≡ TASKS + 1
  pub kinds : length h.kinds ≡ TASKS + 1
  pub places : length h.places ≡ TASKS
  pub short : (row : ℕ) → length (kinds_at h.kinds row) ≤ OBJECTS
  -- a kind for each open action
  pub paired : (row : ℕ) → length (kinds_at h.kinds row) ≡ length (get_or h.objects.opened row [])
  -- the objects of handlers have the highest ceiling (RM C.3.1)
  pub channels : length h.attached ≤ CHANNELS + 1
  pub attached : AreAttached (partition_of h.objects.bases h.objects.ceilings) (pending_of h.attached h.ahead)

-- a handler is there only while it runs, and has no action open before
pub record HandlesAlone (h : Held) : Type 0 where
  pub alone : (a : ℕ) → h.handler ≡ Some a → (h.running ≡ Some a) × (length h.objects.bases ≤ a) × (a ≤ length h.objects.bases + CHANNELS)
  pub runner : (t : ℕ) → h.running ≡ Some t → (t < length h.objects.bases) ⊎ (h.handler ≡ Some t)
  pub free : h.handler ≡ None → get_or h.objects.opened TASKS [] ≡ []

pub record IsKeptOrderly (h : Held) : Type 0 where
  pub orderly : IsOrderly (kernel_of h)
  pub rows : AreRows h
  pub handles : HandlesAlone h

-- ---- interrupts

abbrev pub first_of : List Interrupt → Option Interrupt
first_of [] = None
first_of (i ∷ rest) = Some i

-- the first line, if there is one, is of a channel that has a handler
abbrev pub BeginsAttached : List (Option ℕ) → List ScheduleLine → Type 0
BeginsAttached attached [] = Unit {0}
BeginsAttached attached (line ∷ rest) = (object : ℕ) × (get_or attached line.channel None ≡ Some object)

-- the time at which the next interrupt comes, where one is pending
abbrev pub time_ahead : List Interrupt → Option ℤ
time_ahead [] = None
time_ahead (i ∷ rest) = Some i.time

-- a handler that has closed its own action
abbrev pub is_gone : Kernel → ℕ → Bool
is_gone k t = not (is_task k.partition t) && not (is_inside_any k t)

-- the handler, where it is inside
abbrev pub inside_of : (ℕ → Bool) → Option ℕ → Option ℕ
inside_of is_inside None = None
inside_of is_inside (Some a) = if is_inside a then Some a else None
