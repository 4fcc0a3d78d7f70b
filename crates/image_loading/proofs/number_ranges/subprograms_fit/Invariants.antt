use Rattle.std.proofs.Common.{drop}
use Rattle.image_loading.specs.NumberRanges.{EachOf, SubprogramFits}
use Rattle.image_loading.proofs.number_ranges.subprograms_fit.Given as goal

abbrev pub invariant-loop-s : goal.invariant-loop-s
invariant-loop-s l = EachOf SubprogramFits (drop l.s-index l.fn.subprograms) → EachOf SubprogramFits l.fn.subprograms
