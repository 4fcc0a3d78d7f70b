-- Rows that are added one after another, and what is put after them.
use Rattle.std.proofs.Common.{◌≡◌, ◌∙◌, ◌+◌, ◌++◌, ℕ, suc, List, ap, arith, append_assoc}
use Rattle.measuring.specs.Text.{below}

-- with one more piece the text is that of one more number
pub one_added : (old now later : List ℕ) (f : ℕ → List ℕ) (n : ℕ) (piece : List ℕ) → now ≡ old ++ below n f → later ≡ now ++ piece → piece ≡ f n → later ≡ old ++ below (n + 1) f
one_added old now later f n piece before added is =
    let at : suc n ≡ n + 1 = omega arith in
    added ∙ ap (λ v. v ++ piece) before ∙ ap (λ v. (old ++ below n f) ++ v) is ∙ append_assoc old (below n f) (f n) ∙ ap (λ k. old ++ below k f) at

-- what comes after a text that has grown
pub then_added : (old now later grown piece : List ℕ) → now ≡ old ++ grown → later ≡ now ++ piece → later ≡ old ++ (grown ++ piece)
then_added old now later grown piece before added = added ∙ ap (λ v. v ++ piece) before ∙ append_assoc old grown piece
