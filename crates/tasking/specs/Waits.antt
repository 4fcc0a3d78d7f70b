-- Until when a task sleeps (RM 9.6).
use Rattle.std.specs.Prelude.{ℕ, ℤ, List, [], ◌∷◌, Option, Some, None, nat_eq, if◌then◌else◌}
use Rattle.kernel.specs.State.{Sleeper}

-- the time that a task waits for, if it is among the sleepers
abbrev pub wake_time : ℕ → List Sleeper → Option ℤ
wake_time t [] = None
wake_time t (s ∷ ss) = if nat_eq s.task t then Some s.wake else wake_time t ss
