-- What holds of open actions at all times: each is of an object, and no task has two of one object.
use Rattle.std.specs.Prelude.{◌≡◌, ◌+◌, ◌<◌, ◌≤◌, ℕ, List, [], length, get_or, Option, true, nat_eq}
use Rattle.std.specs.List.{IsDistinct}
use Rattle.base.specs.declared.limits.TheConstants.{OBJECTS, TASKS}
use Rattle.protected.specs.Actions.{is_among}

abbrev pub AreObjects : ℕ → List ℕ → Type 0
AreObjects count objects = IsDistinct nat_eq objects × ((o : ℕ) → is_among o objects ≡ true → o < count)

-- each is a number below this one
abbrev pub AllAreBelow : ℕ → List ℕ → Type 0
AllAreBelow count objects = (i : ℕ) (d : ℕ) → i < length objects → get_or objects i d < count

pub record KeepsActions (bases ceilings : List ℕ) (opened : List (List ℕ)) (queued : List (Option ℕ)) : Type 0 where
  pub tasks : length bases ≤ TASKS
  pub objects : length ceilings ≤ OBJECTS
  pub rows : length opened ≡ TASKS + 1
  pub queues : length queued ≡ OBJECTS
  pub opened_are : (t : ℕ) → AreObjects (length ceilings) (get_or opened t [])
