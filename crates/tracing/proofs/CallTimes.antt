-- The times of calls: one for each actor.
use Rattle.std.proofs.Common.{◌≡◌, ℕ, zero, suc, ◌+◌, [], ◌∷◌, pos, length, refl, ap, ◌∙◌, arith, length-append}
use Rattle.tracing.specs.Calls.{no_calls}

pub one_each : (n : ℕ) → length (no_calls n) ≡ n
one_each zero = refl
one_each (suc n) =
    let more : n + 1 ≡ suc n = omega arith in
    length-append (no_calls n) (pos 0 ∷ []) ∙ ap (λ m. m + 1) (one_each n) ∙ more
