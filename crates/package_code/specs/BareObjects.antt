-- What the declaration of a protected object tells of its row in an image: its ceiling priority, and the words of its components' initial values.
use Rattle.std.specs.Prelude.{ℕ, ℤ, List}

pub record BareObject : Type 0 where
  pub ceiling : ℕ
  pub words : List ℤ
