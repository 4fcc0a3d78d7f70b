use Rattle.std.proofs.Common.{length, ◌-◌}
use Rattle.lexer.proofs.Loop.{Reads}
use Rattle.lexer.proofs.lexing.tokens.Given as goal

abbrev pub invariant-loop-at : goal.invariant-loop-at
invariant-loop-at l = Reads l.text l.at l.tokens.items

abbrev pub decreases-loop-at : goal.decreases-loop-at
decreases-loop-at l = length l.text - l.at
