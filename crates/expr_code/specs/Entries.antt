-- What is told of things by their numbers.
use Rattle.std.specs.Prelude.{ℕ, List, Option, Some, None, slice_get}

-- what the one of this number has, where it has something
abbrev pub entry_at : {X : Type 0} → List (Option X) → ℕ → Option X
entry_at all n = elim (slice_get all n) [ None ↦ None | Some x ↦ x ]
