-- Pieces that are added one after the other.
use Rattle.std.proofs.Common.{◌≡◌, ◌∙◌, ◌++◌, ℕ, List, ap, append_assoc}

pub three_pieces : (start one two three first second third : List ℕ) → one ≡ start ++ first → two ≡ one ++ second → three ≡ two ++ third
    → three ≡ start ++ (first ++ (second ++ third))
three_pieces start one two three first second third e f g =
    g ∙ (ap (λ l. l ++ third) (f ∙ (ap (λ l. l ++ second) e ∙ append_assoc start first second))
    ∙ (append_assoc start (first ++ second) third ∙ ap (λ l. start ++ l) (append_assoc first second third)))

pub two_pieces : (start one two first second : List ℕ) → one ≡ start ++ first → two ≡ one ++ second → two ≡ start ++ (first ++ second)
two_pieces start one two first second e f = f ∙ (ap (λ l. l ++ second) e ∙ append_assoc start first second)
