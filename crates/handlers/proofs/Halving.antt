-- Halving: how often it compares, and what it leaves.
use Rattle.std.proofs.Common.{◌≡◌, ℕ, zero, suc, ◌+◌, ◌-◌, ◌*◌, ◌^◌, ◌/◌, ◌≤◌, ◌<◌, List, length, get_or, true, false, nat_le, arith, refl, sym, ap, ◌∙◌, subst}
use native.Mathlib.Numerals.{unary_clauses}
use Rattle.std.specs.List.Sorted.{IsStrictlyIncreasing}
use Rattle.std.proofs.lemmas.Bool.{leb-true}
use Rattle.std.proofs.lemmas.Bool.Decides.{leb_tells}
use Rattle.std.proofs.lemmas.List.{get_or_default}
use Rattle.handlers.specs.Searching.{CountsDigits, IsWithinDigits}
use Rattle.handlers.proofs.Pieces.{rises}

-- so many were compared, and so many are left of these
pub record Halved (number before after left : ℕ) : Type 0 where
  pub count : ℕ
  pub counted : after ≡ before + count
  pub few : IsWithinDigits count number
  pub halved : left * 2 ^ count ≤ number

pub nothing_halved : (number before : ℕ) → Halved number before before number
nothing_halved number before = record { count = 0; counted = plus; few = _; halved = omega arith }
  where
    plus : before ≡ before + 0
    plus = omega arith

at_least_once : (left p number : ℕ) → 0 < left → left * p ≤ number → p ≤ number
at_least_once zero p number some le = absurd (omega (arith, some))
at_least_once (suc left) p number some le = grind (arith, le)

twice : (half left p number : ℕ) → half + half ≤ left → left * p ≤ number → half * (2 * p) ≤ number
twice half left p number le most =
    let split : left * p ≡ (half + half + (left - (half + half))) * p = ap (λ n. n * p) (whole le) in
    grind (arith, split, most)
  where
    whole : half + half ≤ left → left ≡ half + half + (left - (half + half))
    whole l = omega (arith, l)

pow : (n : ℕ) → 2 ^ suc n ≡ 2 * 2 ^ n
pow n = grind (arith, step n)
  where
    step : (m : ℕ) → 2 ^ suc m ≡ 2 ^ m * 2
    step m = simp unary_clauses refl

pub once_more : (number before after left later rest : ℕ) → Halved number before after left → 0 < left → later ≡ after + 1 → rest + rest ≤ left → Halved number before later rest
once_more number before after left later rest h some one le = record {
  count = suc h.count;
  counted = omega (arith, h.counted, one);
  few = at_least_once left (2 ^ h.count) number some h.halved;
  halved = subst (λ p. rest * p ≤ number) (sym (pow h.count)) (twice rest left (2 ^ h.count) number le h.halved);
}

pub counts : (number before after : ℕ) → Halved number before after 0 → CountsDigits number before after
counts number before after h = record { count = h.count; counted = h.counted; few = h.few }

-- ---- one comparison

module _ (edges : List ℕ) (rising : IsStrictlyIncreasing edges) (place low left before after : ℕ) (all : low + left ≤ length edges)
    (before_low : (i : ℕ) → i < low → get_or edges i 0 ≤ place) (from_left : (i : ℕ) → low + left ≤ i → i < length edges → place < get_or edges i 0)
    (so_far : Halved (length edges) before after left) (some : 0 < left) (edge later : ℕ) (is : edge ≡ get_or edges (low + left / 2) edge) (one : later ≡ after + 1) where
  -- so many edges are left, behind so many that are passed
  pub record Leaves (from many : ℕ) : Type 0 where
    pub within : from + many ≤ length edges
    pub front : (i : ℕ) → i < from → get_or edges i 0 ≤ place
    pub behind : (i : ℕ) → from + many ≤ i → i < length edges → place < get_or edges i 0
    pub halved : Halved (length edges) before later many

  half : left / 2 < left
  half = omega (arith, some)

  middle : get_or edges (low + left / 2) 0 ≡ edge
  middle = get_or_default edges (low + left / 2) 0 edge (omega (arith, half, all)) ∙ sym is

  between : (i j : ℕ) → i ≤ j → j < length edges → get_or edges i 0 ≤ get_or edges j 0
  between i j le low = subst (λ k. get_or edges i 0 ≤ get_or edges k 0) up (rises edges rising i (j - i) (omega (arith, le, low)))
    where
      up : i + (j - i) ≡ j
      up = omega (arith, le)

  pub passed_half : nat_le edge place ≡ true → Leaves (low + (left / 2 + 1)) (left - (left / 2 + 1))
  passed_half le = record {
    within = omega (arith, half, all);
    front = λ i lt. omega (arith, between i (low + left / 2) (omega (arith, lt)) (omega (arith, half, all)), middle, leb-true _ _ le);
    behind = λ i from. from_left i (omega (arith, half, from));
    halved = once_more (length edges) before after left later (left - (left / 2 + 1)) so_far some one (omega (arith, some));
  }

  pub stayed_half : nat_le edge place ≡ false → Leaves low (left / 2)
  stayed_half gt = record {
    within = omega (arith, half, all);
    front = before_low;
    behind = λ i from lt. omega (arith, between (low + left / 2) i from lt, middle, less);
    halved = once_more (length edges) before after left later (left / 2) so_far some one (omega (arith, some));
  }
    where
      less : place < edge
      less = grind (arith, leb_tells, gt)
