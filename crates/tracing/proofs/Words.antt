-- Words of a row, one part after another.
use Rattle.std.proofs.Common.{◌≡◌, ℕ, List, ◌++◌, ap, ◌∙◌, append_assoc}

-- words, and more words behind them
pub two : (row first last a b : List ℕ) → first ≡ row ++ a → last ≡ first ++ b → last ≡ row ++ (a ++ b)
two row first last a b e f = f ∙ ap (λ v. v ++ b) e ∙ append_assoc row a b
