use Rattle.std.proofs.Common.{drop}
use Rattle.image_loading.specs.NumberRanges.{EachOf, InstructionFits}
use Rattle.image_loading.proofs.number_ranges.instructions_fit.Given as goal

abbrev pub invariant-loop-x : goal.invariant-loop-x
invariant-loop-x l = EachOf InstructionFits (drop l.x-index l.fn.instructions) → EachOf InstructionFits l.fn.instructions
