-- Protected objects as an image has them.
use Rattle.std.specs.Prelude.{ℕ, ℤ, List, Option}
use Rattle.image.specs.declared.objects.Barrier.{Barrier}

-- a ceiling priority, the subprogram of the entry, what opens it, and the initial words
pub record ObjectRow : Type 0 where
  pub ceiling : ℕ
  pub entry : Option ℕ
  pub barrier : Barrier
  pub words : List ℤ
