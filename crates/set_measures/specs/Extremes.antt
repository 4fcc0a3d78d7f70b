-- The greatest or the least of the values that a measure has in one run after the other, and which of the runs is the first that has it.
use Rattle.std.specs.Prelude.{◌≡◌, ℕ, ◌+◌, ◌-◌, ◌^◌, ◌<◌, List, Bool, true, false, Option, Some, None, min, nat_lt, slice_get}
use Rattle.set_measures.specs.declared.extreme.Extreme.{Extreme}
use Rattle.set_measures.specs.declared.measure.Direction.{Direction}
use Rattle.set_measures.specs.declared.measure.Direction.TheVariants.{Greatest, Least}

-- No number is greater than 2 ^ 64 - 1: a greater one is written as that.
abbrev pub capped : ℕ → ℕ
capped n = min n (2 ^ 64 - 1)

-- whether the first value is past the second one: greater, or less where the least is asked for
abbrev pub is_past : Direction → ℕ → ℕ → Bool
is_past Greatest v w = nat_lt w v
is_past Least v w = nat_lt v w

-- the run at this place, counted from 0
abbrev pub HasValueAt : List (Option ℕ) → ℕ → ℕ → Type 0
HasValueAt values place v = slice_get values place ≡ Some (Some v)

-- one of the runs has this value, the run of that number is the first that has it, and none of the runs has one that is past it
pub record IsExtreme (direction : Direction) (values : List (Option ℕ)) (e : Extreme) : Type 0 where
  pub place : ℕ
  pub number_is : e.number ≡ capped (place + 1)
  pub has : HasValueAt values place e.value
  pub none_past : (other v : ℕ) → HasValueAt values other v → is_past direction v e.value ≡ false
  pub first : (earlier v : ℕ) → earlier < place → HasValueAt values earlier v → is_past direction e.value v ≡ true

-- there is none where no run has a value
abbrev pub IsExtremeOf : Direction → List (Option ℕ) → Option Extreme → Type 0
IsExtremeOf direction values None = (place v : ℕ) → HasValueAt values place v → ⊥
IsExtremeOf direction values (Some e) = IsExtreme direction values e
