-- What the kernel knows: where each task is, its open protected actions, the clock, the lines and the outcome.
use Rattle.std.specs.Prelude.{ℕ, zero, suc, ◌+◌, max, List, [], ◌∷◌, ◌++◌, ℤ, Option, Bool, false, ◌||◌, nat_eq, nat_lt, if◌then◌else◌}
use Rattle.base.specs.declared.limits.TheConstants.{CHANNELS}

-- Tasks are numbered in order of declaration, main last; protected objects and exceptions are numbers too.
-- The handler of an interrupt is an actor too, of a number beyond the tasks; what is said of tasks holds of it.
-- Times are whole microseconds since the start.

-- what stays as it is while the program runs: how many tasks and objects there are, base priorities of tasks and handlers (RM D.1),
-- ceiling priorities (RM D.3)
pub record Partition : Type 0 where
  pub tasks : ℕ
  pub objects : ℕ
  pub base : ℕ → ℕ
  pub ceiling : ℕ → ℕ

-- the actor that runs the handler of a channel's interrupts (RM C.3.1)
abbrev pub actor : Partition → ℕ → ℕ
actor p channel = p.tasks + channel

abbrev pub is_task : Partition → ℕ → Bool
is_task p u = nat_lt u p.tasks

-- an interrupt (RM C.3): the time and the channel of a line of the schedule, and the object whose procedure is the channel's handler
pub record Interrupt : Type 0 where
  pub time : ℤ
  pub channel : ℕ
  pub object : ℕ

-- where a task is (RM 9, D.2.1): being served is a queued caller whose entry body another task runs (RM 9.5.3);
-- an actor whose handler does not run is finished
pub data TaskPlace : Type 0 where
  IsRunning IsReady IsAsleep IsFinished : TaskPlace
  IsQueued IsServed : (object : ℕ) → TaskPlace

-- an open protected action (RM 9.5.1): of a function, of a procedure or an entry, or of one that runs the entry body for a queued caller
pub data Action : Type 0 where
  Reads Writes : (object : ℕ) → Action
  Serves : (object caller : ℕ) → Action

abbrev pub object_of : Action → ℕ
object_of (Reads o) = o
object_of (Writes o) = o
object_of (Serves o u) = o

-- a task that waits for its wake time (RM 9.6)
pub record Sleeper : Type 0 where
  pub task : ℕ
  pub wake : ℤ

-- one line of output; the label is kept as its bytes, the task as its number
pub record Line : Type 0 where
  pub time : ℤ
  pub task : ℕ
  pub label : List ℕ
  pub value : ℤ

-- how a run has come to its end (RM 9.3, 11.4.1); the time of the outcome is the kernel's, which then stands still
pub data Outcome : Type 0 where
  Ended WaitsForever ImageFault : Outcome
  Unhandled : (exception task : ℕ) → Outcome

pub record Kernel : Type 0 where
  pub partition : Partition
  pub running : Option ℕ
  -- for each priority the ready tasks that do not run, the head first (RM D.2.1)
  pub ready : ℕ → List ℕ
  -- in the order in which they began to wait
  pub sleepers : List Sleeper
  -- the interrupts that were not delivered, in the order of the schedule: the first is the earliest
  pub pending : List Interrupt
  -- the caller that waits in the entry queue of an object, at most one (RM D.7)
  pub queued : ℕ → Option ℕ
  -- the open actions of each task, the innermost first
  pub actions : ℕ → List Action
  pub place : ℕ → TaskPlace
  pub now : ℤ
  pub lines : List Line
  pub outcome : Option Outcome

-- x at n, and f elsewhere
abbrev pub put : {T : Type 0} → ℕ → T → (ℕ → T) → ℕ → T
put n x f m = if nat_eq m n then x else f m

-- the greatest of a base priority and the ceilings of open actions (RM D.3)
abbrev pub raised : (ℕ → ℕ) → ℕ → List Action → ℕ
raised ceiling base [] = base
raised ceiling base (a ∷ outer) = max (ceiling (object_of a)) (raised ceiling base outer)

-- the active priority of a task (RM D.1, D.3)
abbrev pub active : Kernel → ℕ → ℕ
active k t = raised k.partition.ceiling (k.partition.base t) (k.actions t)

abbrev pub is_object_open : ℕ → List Action → Bool
is_object_open o [] = false
is_object_open o (a ∷ outer) = nat_eq (object_of a) o || is_object_open o outer

-- the tasks and actors, of the first n, that have an open action of object o
abbrev pub inside_among : ℕ → Kernel → ℕ → List ℕ
inside_among zero k o = []
inside_among (suc n) k o = inside_among n k o ++ (if is_object_open o (k.actions n) then n ∷ [] else [])

-- the tasks inside object o, and its handler (RM 9.5.1); a queued caller is not inside
abbrev pub inside : Kernel → ℕ → List ℕ
inside k o = inside_among (suc (actor k.partition CHANNELS)) k o
