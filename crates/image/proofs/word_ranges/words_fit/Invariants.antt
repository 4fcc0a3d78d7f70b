use Rattle.std.proofs.Common.{drop}
use Rattle.image.specs.WordRanges.{AllFit}
use Rattle.image.proofs.word_ranges.words_fit.Given as goal

abbrev pub invariant-loop-word : goal.invariant-loop-word
invariant-loop-word l = AllFit (drop l.word-index l.fn.words) → AllFit l.fn.words
