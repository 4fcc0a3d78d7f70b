use Rattle.std.proofs.Common.{◌≡◌, ◌++◌, drop, map}
use Rattle.image_loading.specs.Decoding.{text_from}
use Rattle.image_loading.proofs.decoding.texts.Given as goal

-- what is left, behind what stands, is the whole
abbrev pub invariant-loop-text : goal.invariant-loop-text
invariant-loop-text l = l.made.items ++ map text_from (drop l.text-index l.texts) ≡ map text_from l.texts
