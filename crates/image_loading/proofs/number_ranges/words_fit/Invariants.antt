use Rattle.std.proofs.Common.{drop}
use Rattle.image_loading.specs.NumberRanges.{EachOf, IsWord}
use Rattle.image_loading.proofs.number_ranges.words_fit.Given as goal

abbrev pub invariant-loop-word : goal.invariant-loop-word
invariant-loop-word l = EachOf IsWord (drop l.word-index l.fn.words) → EachOf IsWord l.fn.words
