use Rattle.std.proofs.Common.{◌≡◌, ◌++◌, drop}
use Rattle.package_code.proofs.services.words_copy.Given as goal

abbrev pub invariant-loop-word : goal.invariant-loop-word
invariant-loop-word l = l.copy.items ++ drop l.word-index l.words ≡ l.words
