-- Places and sleepers as words; nobody has to believe this.
use Rattle.std.specs.Prelude.{ℕ, ℤ, pos, List, [], ◌∷◌, ◌++◌, flat_map}
use Rattle.clock.specs.declared.delays.Sleeper.{Sleeper}
use Rattle.tasking.specs.declared.reports.Place.{Place}
use Rattle.tasking.specs.declared.reports.Place.TheVariants as places

abbrev pub place_number : Place → ℕ
place_number places.Running = 1
place_number places.Ready = 2
place_number places.Asleep = 3
place_number places.Finished = 4
place_number (places.Queued object) = 5
place_number (places.Served object) = 6

-- the object where there is one
abbrev pub place_object : Place → ℕ
place_object (places.Queued object) = object
place_object (places.Served object) = object
place_object _ = 0

unfoldable pub place_words : Place → List ℤ
place_words p = pos (place_number p) ∷ pos (place_object p) ∷ []

unfoldable pub sleeper_words : Sleeper → List ℤ
sleeper_words s = pos 1 ∷ pos s.task ∷ s.wake ∷ []

-- each, and a word that none begins with
abbrev pub ended_words : {A : Type 0} → (A → List ℤ) → List A → List ℤ
ended_words f xs = flat_map f xs ++ pos 0 ∷ []
