use Rattle.std.proofs.Common.{drop}
use Rattle.image.specs.WordRanges.{ConstantsFit}
use Rattle.image.proofs.word_ranges.constants_fit.Given as goal

abbrev pub invariant-loop-instruction : goal.invariant-loop-instruction
invariant-loop-instruction l = ConstantsFit (drop l.instruction-index l.fn.instructions) → ConstantsFit l.fn.instructions
