-- Opcodes and the operations that they stand for.
use Rattle.std.proofs.Common.{◌≡◌, ℕ, zero, suc, ◌<◌, ℤ, None, arith, refl}
use Rattle.std.proofs.lemmas.Option.{slice_get_past}
use Rattle.image_loading.specs.Decoding.{operation_from, operations}

pub unknown : (n a : ℕ) (k : ℤ) → 46 < n → operation_from n a k ≡ None
unfolding operation_from
unknown zero a k lt = refl
unknown (suc n) a k lt = slice_get_past (operations a k) n (omega arith)
