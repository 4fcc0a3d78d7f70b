use Rattle.std.proofs.Common.{◌≡◌, take}
use Rattle.lexer.specs.Elements.{upper_case}
use Rattle.ada2012_lexer.proofs.element.name_of.Given as goal

abbrev pub invariant-loop-character : goal.invariant-loop-character
invariant-loop-character l = l.bytes.items ≡ upper_case (take l.character-index l.element)
