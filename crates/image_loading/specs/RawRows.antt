-- Objects and tasks as the bytes of an image give them, nothing judged.
use Rattle.std.specs.Prelude.{ℕ, ℤ, List}

pub record RawObjectRow : Type 0 where
  pub ceiling : ℕ
  pub entry : ℕ
  pub barrier : ℕ
  pub barrier_word : ℕ
  pub words : List ℤ

pub record RawTaskRow : Type 0 where
  pub name : List ℕ
  pub priority : ℕ
  pub subprogram : ℕ
