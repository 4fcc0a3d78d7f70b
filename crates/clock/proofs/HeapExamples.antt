-- Worked rows of heaps: which entry goes first, and the order of adding.
use Rattle.std.proofs.Common.{◌≡◌, ℕ, ℤ, pos, negsuc, List, [], ◌∷◌, true, false, Some, refl}
use Rattle.clock.specs.declared.heap.Entry.{Entry}
use Rattle.clock.specs.declared.delays.Sleeper.{Sleeper}
use Rattle.clock.specs.Heaps.{is_before, sleepers_of}
use Rattle.clock.specs.Sleepers.{due, least_wake, waiting}

abbrev entry : ℤ → ℕ → ℕ → Entry
entry wake number task = record { wake = wake; number = number; task = task }

earlier : is_before (entry (negsuc 0) 9 1) (entry (pos 0) 8 2) ≡ true
earlier = refl

later : is_before (entry (pos 51) 0 1) (entry (pos 50) 1 2) ≡ false
later = refl

added_first : is_before (entry (pos 50) 2 3) (entry (pos 50) 3 1) ≡ true
added_first = refl

not_by_task : is_before (entry (pos 50) 3 1) (entry (pos 50) 2 3) ≡ false
not_by_task = refl

-- tasks 3, 1, 2 and 4 began to wait in this order, for 50, 20, 50 and 20
abbrev four : List Entry
four = entry (pos 20) 1 1 ∷ entry (pos 20) 3 4 ∷ entry (pos 50) 2 2 ∷ entry (pos 50) 0 3 ∷ []

abbrev sleeper : ℕ → ℤ → Sleeper
sleeper task wake = record { task = task; wake = wake }

in_order : sleepers_of four ≡ sleeper 3 (pos 50) ∷ sleeper 1 (pos 20) ∷ sleeper 2 (pos 50) ∷ sleeper 4 (pos 20) ∷ []
in_order = refl

first_time : least_wake (sleepers_of four) ≡ Some (pos 20)
first_time = refl

two_due : due (pos 20) (sleepers_of four) ≡ 1 ∷ 4 ∷ []
two_due = refl

two_left : due (pos 60) (waiting (pos 20) (sleepers_of four)) ≡ 3 ∷ 2 ∷ []
two_left = refl

-- both are due, and the one that wakes later was added first
unlike_times : due (pos 30) (sleepers_of (entry (pos 10) 1 6 ∷ entry (pos 30) 0 5 ∷ [])) ≡ 5 ∷ 6 ∷ []
unlike_times = refl
