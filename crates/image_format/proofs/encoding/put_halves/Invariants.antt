use Rattle.std.proofs.Common.{◌≡◌, ◌++◌, drop, flat_map}
use Rattle.image_format.specs.Bytes.{half}
use Rattle.image_format.proofs.encoding.put_halves.Given as goal

-- what is left, behind what stands, is the whole
abbrev pub invariant-loop-number : goal.invariant-loop-number
invariant-loop-number l = l.out.items ++ flat_map half (drop l.number-index l.numbers) ≡ l.fn.out.items ++ flat_map half l.numbers
