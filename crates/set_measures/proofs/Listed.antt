-- Lists that are made of what a function gives of one number after the other.
use Rattle.std.proofs.Common.{◌≡◌, ◌∙◌, ◌+◌, ◌++◌, ℕ, suc, List, ap, arith, append_assoc}
use Rattle.set_measures.specs.Choices.{each_below}

pub one_added : {X : Type 0} (old now later : List X) (f : ℕ → List X) (n : ℕ) (more : List X) → now ≡ old ++ each_below n f → later ≡ now ++ more → more ≡ f n
    → later ≡ old ++ each_below (n + 1) f
one_added old now later f n more before added is =
    let at : suc n ≡ n + 1 = omega arith in
    added ∙ ap (λ v. v ++ more) before ∙ ap (λ v. (old ++ each_below n f) ++ v) is ∙ append_assoc old (each_below n f) (f n) ∙ ap (λ k. old ++ each_below k f) at
