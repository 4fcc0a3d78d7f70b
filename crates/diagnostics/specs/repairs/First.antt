-- What the first of a list gives that gives anything.
use Rattle.std.specs.Prelude.{List, [], ◌∷◌, Option, Some, None}

-- what each gives is given by a relation; None where none gives anything
pub data FirstOf {A R : Type 0} (Gives : A → Option R → Type 0) : List A → Option R → Type 0 where
  NoneLeft : FirstOf Gives [] None
  Here : {x : A} {xs : List A} {r : R} → Gives x (Some r) → FirstOf Gives (x ∷ xs) (Some r)
  Later : {x : A} {xs : List A} {r : Option R} → Gives x None → FirstOf Gives xs r → FirstOf Gives (x ∷ xs) r
