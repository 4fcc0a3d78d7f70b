use Rattle.std.proofs.Common.{◌≡◌, ◌++◌, drop, map}
use Rattle.image_loading.specs.Decoding.{instruction_of}
use Rattle.image_loading.proofs.decoding.instructions.Given as goal

-- what is left, behind what stands, is the whole
abbrev pub invariant-loop-instruction : goal.invariant-loop-instruction
invariant-loop-instruction l = l.made.items ++ map instruction_of (drop l.instruction-index l.instructions) ≡ map instruction_of l.instructions
