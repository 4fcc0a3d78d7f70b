-- Forward jumps that lead on one from another.
use Rattle.std.proofs.Common.{ℕ}
use Rattle.image.specs.Sections.{Sections}
use Rattle.part_code.specs.Jumping.{Here, Jumps, There}

module _ (i : Sections) where
  pub jumps_both : {a b c : ℕ} → Jumps i a b → Jumps i b c → Jumps i a c
  jumps_both Here q = q
  jumps_both (There here le rest) q = There here le (jumps_both rest q)
