-- Fewer than four words ask `search` for nothing.
use Rattle.std.proofs.Common.{◌≡◌, Bool, ℕ, ◌<◌, List, [], ◌∷◌, arith, length, refl}
use Rattle.command_line.specs.Words.{Nothing, search_in}

pub few_ask : (is_quiet : Bool) → (words : List (List ℕ)) → length words < 4 → search_in is_quiet words ≡ Nothing
few_ask is_quiet [] less = refl
few_ask is_quiet (source ∷ []) less = refl
few_ask is_quiet (source ∷ choices ∷ []) less = refl
few_ask is_quiet (source ∷ choices ∷ until ∷ []) less = refl
few_ask is_quiet (source ∷ choices ∷ until ∷ limit ∷ rest) less = absurd (omega (arith, less))
