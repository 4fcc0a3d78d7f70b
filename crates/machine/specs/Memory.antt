-- A sink in memory.
use Rattle.std.specs.Prelude.{ℕ, zero, suc, ◌+◌, ◌-◌, List, length, min, cond, nat_le, Option, Some, None}
use Rattle.machine.specs.declared.memory_sink.Plan.{Plan}
use Rattle.machine.specs.declared.memory_sink.Plan.TheVariants.{TakesAll, TakesOne, FailsAt, AnswersZeroAt}

-- the bytes taken so far, how many bytes there is room for in all, what it does at a later call, and how many writes failed
pub record MemoryState : Type 0 where
  pub bytes : List ℕ
  pub room : ℕ
  pub plan : Plan
  pub failures : ℕ

-- the plan after one more call
abbrev pub next_plan : Plan → Plan
next_plan TakesAll = TakesAll
next_plan TakesOne = TakesOne
next_plan (FailsAt n) = FailsAt (n - 1)
next_plan (AnswersZeroAt n) = AnswersZeroAt (n - 1)

-- the count where it fits the room that is left
abbrev pub if_room : MemoryState → ℕ → Option ℕ
if_room s count = cond (nat_le (length s.bytes + count) s.room) (Some count) None

abbrev pub at_one : {X : Type 0} → ℕ → X → X → X
at_one zero there elsewhere = elsewhere
at_one (suc zero) there elsewhere = there
at_one (suc (suc n)) there elsewhere = elsewhere

abbrev pub allowed_by : Plan → MemoryState → List ℕ → Option ℕ
allowed_by TakesAll s piece = if_room s (length piece)
allowed_by TakesOne s piece = if_room s (min (length piece) 1)
allowed_by (FailsAt n) s piece = at_one n None (if_room s (length piece))
allowed_by (AnswersZeroAt n) s piece = at_one n (if_room s 0) (if_room s (length piece))

-- how many bytes of a piece the next call takes, or None where it fails
abbrev pub allowed_of : MemoryState → List ℕ → Option ℕ
allowed_of s piece = allowed_by s.plan s piece
