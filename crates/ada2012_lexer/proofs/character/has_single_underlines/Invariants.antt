use Rattle.std.proofs.Common.{◌≡◌, length}
use Rattle.lexer.specs.Elements.{has_single_underlines}
use Rattle.ada2012_lexer.proofs.character.has_single_underlines.Given as goal

abbrev pub invariant-loop-left : goal.invariant-loop-left
invariant-loop-left l = has_single_underlines l.left ≡ has_single_underlines l.text

abbrev pub decreases-loop-left : goal.decreases-loop-left
decreases-loop-left l = length l.left
