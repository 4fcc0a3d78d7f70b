-- What a dump shows of variables.
use Rattle.std.specs.Prelude.{ℕ, List, Option}

-- A scalar variable, or a scalar part of one: its name in the source, and the number of its word, which is among the plain words in a package, and among those
-- of the object in a protected object.
pub record Variable : Type 0 where
  pub name : List ℕ
  pub word : ℕ

-- a package or a protected object, with its variables or components
pub record VariableScope : Type 0 where
  pub name : List ℕ
  pub variables : List Variable

-- the package, if there is one, and the protected objects by their numbers
pub record Scopes : Type 0 where
  pub package_ : Option VariableScope
  pub objects : List VariableScope
