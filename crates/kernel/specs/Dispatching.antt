-- Dispatching: first in, first out within priorities, with preemption (RM D.2.1, D.2.3).
use Rattle.std.specs.Prelude.{ℕ, zero, suc, List, [], ◌∷◌, ◌++◌, Option, Some, None, nat_lt, if◌then◌else◌}
use Rattle.kernel.specs.State.{Kernel, IsRunning, IsReady, IsFinished, put, active}
use Rattle.base.specs.declared.limits.TheConstants.{PRIORITIES}

-- the running task t gives up the processor (RM D.2.1), and is nowhere until it is put somewhere
abbrev pub leaves : ℕ → Kernel → Kernel
leaves t k = record k { running = None; place = put t IsFinished k.place }

-- a task that waited, or gave up the processor, becomes ready: the tail of the list of its active priority (RM D.2.3)
abbrev pub becomes_ready : ℕ → Kernel → Kernel
becomes_ready t k = record k { ready = put (active k t) (k.ready (active k t) ++ t ∷ []) k.ready; place = put t IsReady k.place }

-- the running task is preempted: the head of the list of its active priority (RM D.2.3)
abbrev pub preempted : ℕ → Kernel → Kernel
preempted t k = record k { running = None; ready = put (active k t) (t ∷ k.ready (active k t)) k.ready; place = put t IsReady k.place }

abbrev pub unless_empty : List ℕ → ℕ → Option ℕ → Option ℕ
unless_empty [] h lower = lower
unless_empty (t ∷ ts) h lower = Some h

-- the highest priority below n whose list is not empty (RM D.2.1)
abbrev pub highest : (ℕ → List ℕ) → ℕ → Option ℕ
highest ready zero = None
highest ready (suc n) = unless_empty (ready n) n (highest ready n)

-- the head of list h runs (RM D.2.1)
abbrev pub runs_head : List ℕ → ℕ → Kernel → Kernel
runs_head [] h k = k
runs_head (t ∷ ts) h k = record k { running = Some t; ready = put h ts k.ready; place = put t IsRunning k.place }

abbrev pub runs_from : Option ℕ → Kernel → Kernel
runs_from None k = k
runs_from (Some h) k = runs_head (k.ready h) h k

-- a running task runs on, unless a list above its active priority is not empty (RM D.2.1, D.2.3)
abbrev pub preempts : ℕ → Option ℕ → Kernel → Kernel
preempts t None k = k
preempts t (Some h) k = if nat_lt (active k t) h then runs_from (Some h) (preempted t k) else k

abbrev pub dispatch_from : Option ℕ → Kernel → Kernel
dispatch_from None k = runs_from (highest k.ready PRIORITIES) k
dispatch_from (Some t) k = preempts t (highest k.ready PRIORITIES) k

-- the head of the highest list that is not empty runs (RM D.2.1)
abbrev pub dispatch : Kernel → Kernel
dispatch k = dispatch_from k.running k
