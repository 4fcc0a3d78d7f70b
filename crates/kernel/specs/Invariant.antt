-- What holds of every kernel between steps, and what a step owes for it; nobody has to believe this.
use Rattle.std.specs.Prelude.{◌≡◌, ◌≢◌, ◌⊎◌, ℕ, suc, ◌+◌, ◌<◌, ◌≤◌, List, [], ◌∷◌, Some, None, Bool, false, nat_eq, if◌then◌else◌}
use Rattle.base.specs.declared.limits.TheConstants.{PRIORITIES}
use Rattle.kernel.specs.State.{Partition, Interrupt, Kernel, TaskPlace, IsRunning, IsReady, IsAsleep, IsQueued, IsServed, IsFinished, Action, Reads, Writes, Serves, object_of, Sleeper, active, raised}
use Rattle.kernel.specs.Clock.{next, last_outcome}
use Rattle.kernel.specs.Effects.{Effect, Quiet, Says, Delays, Opens, Views, Queues, Ends, Finishes, Dies, Breaks, is_inside_any, is_above_ceiling, call_refusal, is_full}

abbrev pub HasAction : (Action → Type 0) → List Action → Type 0
HasAction P [] = ⊥
HasAction P (a ∷ outer) = P a ⊎ HasAction P outer

-- inside object o
abbrev pub IsInsideObject : ℕ → List Action → Type 0
IsInsideObject o actions = HasAction (λ a. object_of a ≡ o) actions

-- inside any action
abbrev pub Busy : List Action → Type 0
Busy [] = ⊥
Busy (a ∷ outer) = Unit {0}

abbrev pub CanWrite : ℕ → Action → Type 0
CanWrite o (Reads p) = ⊥
CanWrite o (Writes p) = p ≡ o
CanWrite o (Serves p u) = p ≡ o

abbrev pub ServesCall : ℕ → ℕ → Action → Type 0
ServesCall o u (Reads p) = ⊥
ServesCall o u (Writes p) = ⊥
ServesCall o u (Serves p v) = (p ≡ o) × (v ≡ u)

-- no object twice
abbrev pub Once : List Action → Type 0
Once [] = Unit {0}
Once (a ∷ outer) = (IsInsideObject (object_of a) outer → ⊥) × Once outer

-- each ceiling is at least the active priority under it, so ceilings do not fall from outer to inner
abbrev pub Stacked : (ℕ → ℕ) → ℕ → List Action → Type 0
Stacked ceiling base [] = Unit {0}
Stacked ceiling base (a ∷ outer) = (raised ceiling base outer ≤ ceiling (object_of a)) × Stacked ceiling base outer

-- who is being served is served by somebody
abbrev pub Served : (ℕ → TaskPlace) → (ℕ → List Action) → Type 0
Served place actions = (u o : ℕ) → place u ≡ IsServed o → (t : ℕ) × HasAction (ServesCall o u) (actions t)

abbrev pub count : ℕ → List ℕ → ℕ
count t [] = 0
count t (u ∷ us) = (if nat_eq t u then 1 else 0) + count t us

-- how often a task is among the sleepers
abbrev pub naps : ℕ → List Sleeper → ℕ
naps t [] = 0
naps t (s ∷ ss) = (if nat_eq t s.task then 1 else 0) + naps t ss

-- how often a task of this place and active priority stands in list h
abbrev pub listed : TaskPlace → ℕ → ℕ → ℕ
listed IsReady a h = if nat_eq h a then 1 else 0
listed IsRunning a h = 0
listed IsAsleep a h = 0
listed (IsQueued o) a h = 0
listed (IsServed o) a h = 0
listed IsFinished a h = 0

abbrev pub asleep : TaskPlace → ℕ
asleep IsAsleep = 1
asleep IsRunning = 0
asleep IsReady = 0
asleep (IsQueued o) = 0
asleep (IsServed o) = 0
asleep IsFinished = 0

-- the objects whose procedures are handlers have the highest ceiling (RM C.3.1)
abbrev pub AreAttached : Partition → List Interrupt → Type 0
AreAttached p [] = Unit {0}
AreAttached p (i ∷ is) = (suc (p.ceiling i.object) ≡ PRIORITIES) × AreAttached p is

-- a procedure's or an entry's action, at whose end a queued call may be served
abbrev pub MayServe : Action → Type 0
MayServe (Reads o) = ⊥
MayServe (Writes o) = Unit {0}
MayServe (Serves o u) = Unit {0}

abbrev pub OutermostServes : Action → List Action → Type 0
OutermostServes a [] = MayServe a
OutermostServes a (b ∷ outer) = OutermostServes b outer

-- within the action of a procedure or an entry, the outermost one: a handler's own
abbrev pub IsInOwn : List Action → Type 0
IsInOwn [] = ⊥
IsInOwn (a ∷ outer) = OutermostServes a outer

-- a handler runs within its own action
abbrev pub HandlesWithin : Kernel → Type 0
HandlesWithin k = (u : ℕ) → k.partition.tasks ≤ u → k.running ≡ Some u → IsInOwn (k.actions u)

-- `barrier o` tells whether the barrier of o is open; `pending` are sleepers that the clock has yet to look at
pub record Sound (barrier : ℕ → Bool) (k : Kernel) (pending : List Sleeper) : Type 0 where
  -- priorities
  pub base_low : (t : ℕ) → k.partition.base t < PRIORITIES
  pub ceiling_low : (o : ℕ) → k.partition.ceiling o < PRIORITIES
  -- handlers have the highest priority, and an actor is there only while it runs
  pub urgent : (u : ℕ) → k.partition.tasks ≤ u → suc (k.partition.base u) ≡ PRIORITIES
  pub attached : AreAttached k.partition k.pending
  pub gone : (u : ℕ) → k.partition.tasks ≤ u → (k.place u ≡ IsFinished) ⊎ (k.running ≡ Some u)
  -- exactly one place for each task
  pub runs : (t : ℕ) → k.running ≡ Some t → k.place t ≡ IsRunning
  pub runner : (t : ℕ) → k.place t ≡ IsRunning → k.running ≡ Some t
  pub lists : (t h : ℕ) → count t (k.ready h) ≡ listed (k.place t) (active k t) h
  pub naps_once : (t : ℕ) → naps t k.sleepers + naps t pending ≡ asleep (k.place t)
  pub queue : (o u : ℕ) → k.queued o ≡ Some u → k.place u ≡ IsQueued o
  pub waits : (o u : ℕ) → k.place u ≡ IsQueued o → k.queued o ≡ Some u
  -- open actions
  pub awake : (t : ℕ) → Busy (k.actions t) → (k.place t ≡ IsRunning) ⊎ (k.place t ≡ IsReady)
  pub stacked : (t : ℕ) → Stacked k.partition.ceiling (k.partition.base t) (k.actions t)
  pub once : (t : ℕ) → Once (k.actions t)
  pub serving : (t o u : ℕ) → HasAction (ServesCall o u) (k.actions t) → (k.place u ≡ IsServed o) × (k.queued o ≡ None)
  pub closed : (o u : ℕ) → k.queued o ≡ Some u → (barrier o ≡ false) ⊎ ((t : ℕ) × HasAction (CanWrite o) (k.actions t))
  -- who was preempted inside an action stands below the base priority of whoever came after
  pub below : (r t : ℕ) → k.running ≡ Some r → t ≢ r → Busy (k.actions t) → active k t < k.partition.base r
  pub apart : (t u : ℕ) → t ≢ u → Busy (k.actions t) → Busy (k.actions u) → (active k t < k.partition.base u) ⊎ (active k u < k.partition.base t)
  pub heads : (t : ℕ) → Busy (k.actions t) → k.place t ≡ IsReady → (ts : List ℕ) × (k.ready (active k t) ≡ t ∷ ts)

-- dispatching is done
pub record Settled (k : Kernel) : Type 0 where
  pub first : (r u : ℕ) → k.running ≡ Some r → k.place u ≡ IsReady → active k u ≤ active k r
  pub nobody : (u : ℕ) → k.running ≡ None → k.place u ≡ IsReady → ⊥

-- the invariant: a sound kernel, dispatched; where nobody runs, nothing is to come and the run is over
pub record Kept (barrier : ℕ → Bool) (k : Kernel) : Type 0 where
  pub sound : Sound barrier k []
  pub settled : Settled k
  pub served : Served k.place k.actions
  pub within : HandlesWithin k
  pub over : k.running ≡ None → (next k ≡ None) × (k.outcome ≡ Some (last_outcome k))

-- priorities and ceilings are in their range, those of handlers at its end
pub record Fits (p : Partition) : Type 0 where
  pub base_low : (t : ℕ) → p.base t < PRIORITIES
  pub ceiling_low : (o : ℕ) → p.ceiling o < PRIORITIES
  pub urgent : (u : ℕ) → p.tasks ≤ u → suc (p.base u) ≡ PRIORITIES

-- where a procedure or an entry may serve, the barrier that is handed in is its object's
abbrev pub Tells : (ℕ → Bool) → Bool → List Action → Type 0
Tells barrier is_open [] = Unit {0}
Tells barrier is_open (Reads o ∷ outer) = Unit {0}
Tells barrier is_open (Writes o ∷ outer) = is_open ≡ barrier o
Tells barrier is_open (Serves o u ∷ outer) = Unit {0}

-- the refusals that a step has passed before its effect, by the barriers after it
abbrev pub Passed : (ℕ → Bool) → Kernel → ℕ → Effect → Type 0
Passed barrier k t Quiet = Unit {0}
Passed barrier k t (Says label value) = Unit {0}
Passed barrier k t (Delays until) = is_inside_any k t ≡ false
Passed barrier k t (Opens o) = call_refusal k t o ≡ None
Passed barrier k t (Views o) = call_refusal k t o ≡ None
Passed barrier k t (Queues o) = (is_inside_any k t ≡ false) × (is_above_ceiling k t o ≡ false) × (barrier o ≡ false) × (is_full k o ≡ false)
Passed barrier k t (Ends is_open) = Tells barrier is_open (k.actions t)
Passed barrier k t Finishes = is_inside_any k t ≡ false
Passed barrier k t (Dies x) = Unit {0}
Passed barrier k t Breaks = Unit {0}

-- a barrier changes only where the running task has an action open that may write its object
abbrev pub IsBarrierHeld : (ℕ → Bool) → (ℕ → Bool) → Kernel → ℕ → Type 0
IsBarrierHeld before later k t = (o : ℕ) → (later o ≡ before o) ⊎ HasAction (CanWrite o) (k.actions t)
