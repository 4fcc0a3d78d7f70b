use Rattle.std.proofs.Common.{◌≡◌, ◌++◌, drop, flat_map}
use Rattle.image_format.specs.Bytes.{subprogram_bytes}
use Rattle.image_format.proofs.encoding.put_subprograms.Given as goal

-- what is left, behind what stands, is the whole
abbrev pub invariant-loop-s : goal.invariant-loop-s
invariant-loop-s l = l.out.items ++ flat_map subprogram_bytes (drop l.s-index l.subprograms) ≡ l.fn.out.items ++ flat_map subprogram_bytes l.subprograms
