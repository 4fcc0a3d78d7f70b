-- What is put after a text that has grown.
use Rattle.std.proofs.Common.{◌≡◌, ◌∙◌, ◌+◌, ◌++◌, ℕ, suc, List, ap, arith, append_assoc}
use Rattle.pictures.specs.Front.{below}

-- with one more piece the text is that of one more number
pub one_added : (old now later : List ℕ) (f : ℕ → List ℕ) (n : ℕ) (piece : List ℕ) → now ≡ old ++ below n f → later ≡ now ++ piece → piece ≡ f n → later ≡ old ++ below (n + 1) f
one_added old now later f n piece before added is =
    let at : suc n ≡ n + 1 = omega arith in
    added ∙ ap (λ v. v ++ piece) before ∙ ap (λ v. (old ++ below n f) ++ v) is ∙ append_assoc old (below n f) (f n) ∙ ap (λ k. old ++ below k f) at

-- two pieces, one after the other
pub two : (old now later first second : List ℕ) → now ≡ old ++ first → later ≡ now ++ second → later ≡ old ++ (first ++ second)
two old now later first second before added = added ∙ ap (λ v. v ++ second) before ∙ append_assoc old first second

-- seven
pub seven : (t t1 t2 t3 t4 t5 t6 t7 a b c d e f g : List ℕ) → t1 ≡ t ++ a → t2 ≡ t1 ++ b → t3 ≡ t2 ++ c → t4 ≡ t3 ++ d → t5 ≡ t4 ++ e → t6 ≡ t5 ++ f → t7 ≡ t6 ++ g →
    t7 ≡ t ++ (a ++ b ++ c ++ d ++ e ++ f ++ g)
seven t t1 t2 t3 t4 t5 t6 t7 a b c d e f g one second third fourth fifth sixth last =
    let ab = two t t1 t2 a b one second in
    let abc = two t t2 t3 (a ++ b) c ab third in
    let abcd = two t t3 t4 (a ++ b ++ c) d abc fourth in
    let abcde = two t t4 t5 (a ++ b ++ c ++ d) e abcd fifth in
    let abcdef = two t t5 t6 (a ++ b ++ c ++ d ++ e) f abcde sixth in
    two t t6 t7 (a ++ b ++ c ++ d ++ e ++ f) g abcdef last
