-- Tasks in a ring: a row of places that is read from one of them on, round its end.
use Rattle.base.specs.declared.limits.TheConstants.{TASKS}
use Rattle.std.specs.Prelude.{◌≡◌, ℕ, zero, suc, ◌+◌, ◌%◌, ◌<◌, List, [], ◌∷◌, get_or, Bool, true, false}
use Rattle.std.specs.Int.{bit_at}
use Rattle.dispatch.specs.Queues.{is_occupied}
use Rattle.base.specs.declared.limits.TheConstants.{PRIORITIES}

-- so many tasks from a place on
abbrev pub tasks_from : List ℕ → ℕ → ℕ → List ℕ
tasks_from places at zero = []
tasks_from places at (suc count) = get_or places (at % TASKS) 0 ∷ tasks_from places (at + 1) count

abbrev pub bit_of : Bool → ℕ
bit_of true = 1
bit_of false = 0

-- the bit of each priority tells whether its list is not empty
abbrev pub IsMask : ℕ → List (List ℕ) → Type 0
IsMask mask lists = (p : ℕ) → p < PRIORITIES → bit_at mask p ≡ bit_of (is_occupied (get_or lists p []))
