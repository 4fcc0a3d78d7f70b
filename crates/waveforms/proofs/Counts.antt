-- How many signals there are before those of an object.
use Rattle.std.proofs.Common.{◌≡◌, ℕ, zero, suc, ◌+◌, ◌-◌, ◌≤◌, ap, arith, length, subst}
use Rattle.waveforms.specs.Signals.{components, object_first}
use Rattle.waveforms.specs.Scopes.{Scopes}

module _ (scopes : Scopes) (tasks : ℕ) where
  pub next_first : (o : ℕ) → object_first scopes tasks (o + 1) ≡ object_first scopes tasks o + 2 + length (components scopes o)
  next_first o = let e : o + 1 ≡ suc o = omega arith in ap (object_first scopes tasks) e

  more : (o j : ℕ) → object_first scopes tasks o ≤ object_first scopes tasks (o + j)
  more o zero = let e : o + zero ≡ o = omega arith in omega (arith, ap (object_first scopes tasks) e)
  more o (suc j) =
      let e : o + suc j ≡ suc (o + j) = omega arith in
      let before = more o j in
      omega (arith, before, ap (object_first scopes tasks) e)

  pub fewer : (o p : ℕ) → o ≤ p → object_first scopes tasks o ≤ object_first scopes tasks p
  fewer o p le = let e : o + (p - o) ≡ p = omega (arith, le) in subst (λ n. object_first scopes tasks o ≤ object_first scopes tasks n) e (more o (p - o))

  -- those up to an object and its own are no more than all
  pub within : (o count : ℕ) → o + 1 ≤ count → object_first scopes tasks o + 2 + length (components scopes o) ≤ object_first scopes tasks count
  within o count le = let least = fewer (o + 1) count le in let next = next_first o in omega (arith, least, next)
