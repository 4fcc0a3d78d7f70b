-- Two pieces appended one after the other.
use Rattle.std.proofs.Common.{◌≡◌, ◌∙◌, ℕ, List, ◌++◌, ap, append_assoc}

pub two_pieces : (start next last first second : List ℕ) → next ≡ start ++ first → last ≡ next ++ second → last ≡ start ++ (first ++ second)
two_pieces start next last first second e f = f ∙ (ap (λ l. l ++ second) e ∙ append_assoc start first second)
