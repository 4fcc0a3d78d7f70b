-- The order of faults.
use Rattle.std.proofs.Common.{◌≡◌, ◌≤◌, ◌<◌, ◌⊎◌, ◌+◌, ◌*◌, ℕ, arith}
use Rattle.legality.specs.ProgramRules.{OrderIsByPlaceAndNumber}

by_place : (p q m n : ℕ) → m < 256 → n < 256 → p * 256 + m ≤ q * 256 + n → (p < q) ⊎ ((p ≡ q) × (m ≤ n))
by_place p q m n h k le = grind (arith, h, k, le)

pub order_is_by_place_and_number : OrderIsByPlaceAndNumber
order_is_by_place_and_number a b h k le = by_place a.place b.place a.number b.number h k le
