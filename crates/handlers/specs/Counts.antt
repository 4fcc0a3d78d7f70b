-- What searches have compared.
use Rattle.std.specs.Prelude.{ℕ}

-- how many places and how many exceptions were compared
pub record Counts : Type 0 where
  pub places : ℕ
  pub exceptions : ℕ
