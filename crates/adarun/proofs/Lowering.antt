-- What `lower` leaves: where its source is refused, and what it is lowered to.
use Rattle.std.proofs.Common.{◌≡◌, ℕ, List, Option, inl, inr, subst, sym}
use Rattle.file_limits.specs.declared.TheConstants.{SOURCE_BYTES}
use Rattle.lowering.specs.Lowering.{IsLowered}
use Rattle.text_edits.specs.Edits.{line_feeds}
use Rattle.adarun.specs.Lowering.{IsLoweredText, IsUnlowered, LeavesLowered}
use Rattle.adarun.specs.Reading.{Contents, IsBeginningRead}
use Rattle.adarun.specs.declared.program.Status.{Status}

module _ (contents : Contents) (source text : List ℕ) (old new : Option (List ℕ)) (read : IsBeginningRead (contents source) SOURCE_BYTES text) (unwritten : new ≡ old) where
  pub refused_lowering : (status : Status) → IsUnlowered status → LeavesLowered contents source status old new
  refused_lowering status (inl refused) =
      subst (λ s. LeavesLowered contents source s old new) (sym refused) (record { text = text; source_read = read; unwritten = unwritten })
  refused_lowering status (inr memory) = subst (λ s. LeavesLowered contents source s old new) (sym memory) unwritten

-- the text that is given is what it is lowered to
pub lowered_as : (text lowered given : List ℕ) → IsLowered text lowered → line_feeds lowered ≡ line_feeds text → given ≡ lowered → IsLoweredText text given
lowered_as text lowered given by_edits lines same = subst (IsLoweredText text) (sym same) (record { by_edits = by_edits; lines = lines })
