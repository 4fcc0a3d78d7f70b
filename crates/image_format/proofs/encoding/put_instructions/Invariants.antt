use Rattle.std.proofs.Common.{◌≡◌, ◌++◌, drop, flat_map}
use Rattle.image_format.specs.Bytes.{instruction_bytes}
use Rattle.image_format.proofs.encoding.put_instructions.Given as goal

-- what is left, behind what stands, is the whole
abbrev pub invariant-loop-x : goal.invariant-loop-x
invariant-loop-x l = l.out.items ++ flat_map instruction_bytes (drop l.x-index l.instructions) ≡ l.fn.out.items ++ flat_map instruction_bytes l.instructions
