-- A search among numbers goes on with the next where one fails.
use Rattle.std.proofs.Common.{◌≡◌, ℕ, suc, ◌+◌, ◌-◌, ◌<◌, Bool, false, Option, Some, sym, ap, subst, ◌∙◌, arith}
use Rattle.std.specs.Prelude.{if◌then◌else◌}
use Rattle.remedies.specs.Likeness.{first_where}

pub goes_on : (test : ℕ → Bool) (n length : ℕ) (found : Option ℕ) → n < length → test n ≡ false → first_where test n (length - n) ≡ found
    → first_where test (n + 1) (length - (n + 1)) ≡ found
goes_on test n length found less fails is =
    let left : length - n ≡ suc (length - (n + 1)) = omega (arith, less) in
    let next : n + 1 ≡ suc n = omega arith in
    subst (λ k. first_where test k (length - (n + 1)) ≡ found) (sym next)
    (sym (ap (λ b. if b then Some n else first_where test (suc n) (length - (n + 1))) fails) ∙ sym (ap (first_where test n) left) ∙ is)
