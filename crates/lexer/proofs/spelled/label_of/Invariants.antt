use Rattle.std.proofs.Common.{◌≡◌, take}
use Rattle.lexer.proofs.spelled.label_of.Given as goal

abbrev pub invariant-loop-character : goal.invariant-loop-character
invariant-loop-character l = l.bytes.items ≡ take l.character-index l.element
