-- Where exceptions go on: at part of the places, and in images that handle nothing.
use Rattle.std.proofs.Common.{ℕ, ◌≤◌, arith}
use Rattle.image.specs.Sections.{Sections}
use Rattle.part_code.specs.Handling.{GoesBy, Handling}

pub goes_within : (i : Sections) (r : Handling) (a b c d : ℕ) → GoesBy i r a d → a ≤ b → c ≤ d → GoesBy i r b c
goes_within i r a b c d h up over = λ place x low high. h place x (omega (arith, up, low)) (omega (arith, high, over))
