-- The clock of virtual time: it moves where nobody runs, to the least of the wake times and of the times of pending interrupts (RM D.8, 9.6, C.3).
use Rattle.std.specs.Prelude.{ℕ, zero, suc, List, [], ◌∷◌, ◌++◌, ℤ, Option, Some, None, Bool, false, ◌||◌, is_some, int_lt, if◌then◌else◌}
use Rattle.kernel.specs.State.{Interrupt, Kernel, Sleeper, IsAsleep, IsFinished, Outcome, Ended, WaitsForever, put}
use Rattle.kernel.specs.Dispatching.{becomes_ready, dispatch}
use Rattle.kernel.specs.Interrupts.{delivers}

-- a task that gave up the processor waits until a time (RM 9.6)
abbrev pub falls_asleep : ℕ → ℤ → Kernel → Kernel
falls_asleep t wake k = record k { sleepers = k.sleepers ++ record { task = t; wake = wake } ∷ []; place = put t IsAsleep k.place }

-- a task that waited is nowhere until it is put somewhere
abbrev pub released : ℕ → Kernel → Kernel
released t k = record k { place = put t IsFinished k.place }

-- the least of a time and the wake times of sleepers
abbrev pub least : ℤ → List Sleeper → ℤ
least time [] = time
least time (s ∷ ss) = if int_lt s.wake time then least s.wake ss else least time ss

abbrev pub wakes_if_due : Sleeper → Kernel → Kernel
wakes_if_due s k = if int_lt k.now s.wake then record k { sleepers = k.sleepers ++ s ∷ [] } else becomes_ready s.task (released s.task k)

-- the sleepers that are due leave the list and become ready, in the order in which they began to wait (RM 9.6, D.2.3)
abbrev pub wakes_due : List Sleeper → Kernel → Kernel
wakes_due [] k = k
wakes_due (s ∷ ss) k = wakes_due ss (wakes_if_due s k)

-- whether a call is queued at one of the first n objects
abbrev pub some_queued : (ℕ → Option ℕ) → ℕ → Bool
some_queued queued zero = false
some_queued queued (suc n) = is_some (queued n) || some_queued queued n

abbrev pub last_outcome : Kernel → Outcome
last_outcome k = if some_queued k.queued k.partition.objects then WaitsForever else Ended

-- the next time at which something is to come: the least of the wake times and of the times of pending interrupts, the first of which is the earliest;
-- where nobody sleeps and no call is queued all tasks are finished, and interrupts are awaited no more
abbrev pub next_time : List Sleeper → List Interrupt → Bool → Option ℤ
next_time [] [] is_queued = None
next_time [] (i ∷ is) is_queued = if is_queued then Some i.time else None
next_time (s ∷ ss) [] is_queued = Some (least s.wake ss)
next_time (s ∷ ss) (i ∷ is) is_queued = Some (least i.time (s ∷ ss))

abbrev pub next : Kernel → Option ℤ
next k = next_time k.sleepers k.pending (some_queued k.queued k.partition.objects)

-- where nobody runs or is ready: the run is over where nothing is to come, and else time moves on; the tasks due become ready,
-- then the first interrupt of that time is delivered, whose handler runs before any task
abbrev pub time_moves : Option ℤ → Kernel → Kernel
time_moves None k = record k { outcome = Some (last_outcome k) }
time_moves (Some time) k =
    let woken = wakes_due k.sleepers (record k { now = time; sleepers = [] }) in
    dispatch (delivers woken.pending woken)

abbrev pub clock_from : Option ℕ → Kernel → Kernel
clock_from (Some t) k = k
clock_from None k = time_moves (next k) k

abbrev pub clock : Kernel → Kernel
clock k = clock_from k.running k
