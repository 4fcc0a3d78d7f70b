-- Sleepers that are numbered in the order of their adding, with the number that comes next.
use Rattle.std.specs.Prelude.{ℕ, ◌+◌, ◌-◌, ◌^◌, List, [], ◌∷◌, ◌++◌, length, nat_eq, if◌then◌else◌}
use Rattle.clock.specs.declared.delays.Sleeper.{Sleeper}

pub record Numbered : Type 0 where
  pub sleepers : List Sleeper
  pub next : ℕ

-- the number that one more gets: the next one; where that is the greatest value of 64 bits all others first get numbers anew, from 0 in their order
abbrev pub free_number : ℕ → List Sleeper → ℕ
free_number next sleepers = if nat_eq next (2 ^ 64 - 1) then length sleepers else next

-- one more is added
abbrev pub added : Numbered → Sleeper → Numbered
added d s = record { sleepers = d.sleepers ++ s ∷ []; next = free_number d.next d.sleepers + 1 }
