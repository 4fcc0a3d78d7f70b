use Rattle.std.proofs.Common.{◌≡◌, ◌++◌, drop, flat_map}
use Rattle.image_format.specs.Bytes.{word}
use Rattle.image_format.proofs.encoding.put_words.Given as goal

-- what is left, behind what stands, is the whole
abbrev pub invariant-loop-word : goal.invariant-loop-word
invariant-loop-word l = l.out.items ++ flat_map word (drop l.word-index l.words) ≡ l.fn.out.items ++ flat_map word l.words
