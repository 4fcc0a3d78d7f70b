use Rattle.std.proofs.Common.{◌≡◌, ◌++◌, drop, flat_map}
use Rattle.image_format.specs.Bytes.{text}
use Rattle.image_format.proofs.encoding.put_texts.Given as goal

-- what is left, behind what stands, is the whole
abbrev pub invariant-loop-one : goal.invariant-loop-one
invariant-loop-one l = l.out.items ++ flat_map text (drop l.one-index l.texts) ≡ l.fn.out.items ++ flat_map text l.texts
