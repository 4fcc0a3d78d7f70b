use Rattle.std.proofs.Common.{◌≡◌, ◌++◌, drop}
use Rattle.pictures.specs.Text.{escaped}
use Rattle.pictures.proofs.title.add_escaped.Given as goal

-- what is left is still to come
abbrev pub invariant-loop-byte : goal.invariant-loop-byte
invariant-loop-byte l = l.text.items ++ escaped (drop l.byte-index l.fn.line) ≡ l.fn.text.items ++ escaped l.fn.line
