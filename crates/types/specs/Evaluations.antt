-- What an evaluation comes to (RM 4.1, 11.4).
use Rattle.std.specs.Prelude.{ℕ, Ok, Err}
use Rattle.base.specs.Arithmetic.{Checked}
use Rattle.base.specs.Exceptions.{number_of}
use Rattle.base.specs.declared.exceptions.PredefinedException.{PredefinedException}
use Rattle.types.specs.Values.{Value, Number}

-- It gives something, or raises an exception. `Meaningless` is what no rule gives a meaning to; a legal program never comes to that.
pub data Val (A : Type 0) : Type 0 where
  Gives : A → Val A
  Raises : (exception : ℕ) → Val A
  Meaningless : Val A

-- the one, and with what it gives the other
abbrev pub and_then : {A B : Type 0} → Val A → (A → Val B) → Val B
and_then (Gives a) go = go a
and_then (Raises x) go = Raises x
and_then Meaningless go = Meaningless

abbrev pub raise : {A : Type 0} → PredefinedException → Val A
raise x = Raises (number_of x)

-- a number that was computed
abbrev pub computed : Checked → Val Value
computed (Ok z) = Gives (Number z)
computed (Err x) = raise x
