-- A text to which what stands for each number is added in turn.
use Rattle.std.proofs.Common.{◌≡◌, ◌<◌, ℕ, zero, suc, ◌+◌, List, ◌++◌, refl, sym, ap, ◌∙◌, arith, append_assoc}
use Rattle.waveforms.specs.Signals.{all_below}

pub one_added : (before old new : List ℕ) (f : ℕ → List ℕ) (n : ℕ) (piece : List ℕ) → old ≡ before ++ all_below n f → new ≡ old ++ piece → piece ≡ f n → new ≡ before ++ all_below (n + 1) f
one_added before old new f n piece is added piece_is =
    let e : n + 1 ≡ suc n = omega arith in
    added ∙ (λ j. is j ++ piece_is j) ∙ append_assoc before (all_below n f) (f n) ∙ ap (λ m. before ++ all_below m f) (sym e)

-- what stands for each number below n, by these numbers alone
pub below_same : (n : ℕ) (f g : ℕ → List ℕ) → ((t : ℕ) → t < n → f t ≡ g t) → all_below n f ≡ all_below n g
below_same zero f g same = refl
below_same (suc n) f g same =
    let rest = below_same n f g (λ t less. same t (omega (arith, less))) in
    let last = same n (omega arith) in
    λ j. rest j ++ last j

-- two pieces, one after the other
pub both_added : (old middle new first second : List ℕ) → middle ≡ old ++ first → new ≡ middle ++ second → new ≡ old ++ (first ++ second)
both_added old middle new first second one two = two ∙ ap (λ v. v ++ second) one ∙ append_assoc old first second
