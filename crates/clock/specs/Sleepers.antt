-- Tasks that wait for a time, in the order in which they began to wait (RM 9.6, D.8).
use Rattle.std.specs.Prelude.{ℕ, ℤ, List, [], ◌∷◌, Bool, not, Option, Some, None, int_le, int_lt, nat_eq, filter, map, if◌then◌else◌}
use Rattle.clock.specs.declared.delays.Sleeper.{Sleeper}

-- the least of a time and the wake times of sleepers
abbrev pub least : ℤ → List Sleeper → ℤ
least time [] = time
least time (s ∷ rest) = if int_lt s.wake time then least s.wake rest else least time rest

-- the least wake time, if somebody sleeps
abbrev pub least_wake : List Sleeper → Option ℤ
least_wake [] = None
least_wake (s ∷ rest) = Some (least s.wake rest)

abbrev pub is_due : ℤ → Sleeper → Bool
is_due now s = int_le s.wake now

abbrev pub number_of : Sleeper → ℕ
number_of s = s.task

-- the tasks whose wake time has come, and the sleepers that wait on, each in their order
abbrev pub due : ℤ → List Sleeper → List ℕ
due now sleepers = map number_of (filter (is_due now) sleepers)

abbrev pub waiting : ℤ → List Sleeper → List Sleeper
waiting now sleepers = filter (λ s. not (is_due now s)) sleepers

-- the time that a task waits for, if it sleeps; of a task that was added twice, the first one
abbrev pub wake_of : ℕ → List Sleeper → Option ℤ
wake_of task [] = None
wake_of task (s ∷ rest) = if nat_eq s.task task then Some s.wake else wake_of task rest
