-- Lists that are split one element further on.
use Rattle.std.proofs.Common.{◌≡◌, ◌++◌, List, [], ◌∷◌, sym}
use Rattle.std.proofs.lemmas.List.{append_assoc}

-- one more element at the end of what is in front
pub step_split : {X : Type 0} (front : List X) (x : X) (behind : List X) → front ++ x ∷ behind ≡ (front ++ x ∷ []) ++ behind
step_split front x behind = sym (append_assoc front (x ∷ []) behind)
