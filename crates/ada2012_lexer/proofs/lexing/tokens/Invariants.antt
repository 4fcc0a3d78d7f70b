use Rattle.std.proofs.Common.{◌≤◌, ◌-◌, length, map}
use Rattle.ada2012_lexer.specs.declared.lexing.TheConstants.{TEXT_LIMIT}
use Rattle.ada2012_lexer.specs.Reading.{AreSpansInOrder, span_of}
use Rattle.ada2012_lexer.proofs.Turns.{Reads}
use Rattle.ada2012_lexer.proofs.lexing.tokens.Given as goal

abbrev pub invariant-loop-at : goal.invariant-loop-at
invariant-loop-at l = record {
  reads : Reads l.text l.tick l.at l.found.tokens.items l.found.comments.items;
  within : l.at ≤ length l.text;
  short : length l.text ≤ TEXT_LIMIT;
  tokens : AreSpansInOrder 0 l.at (map span_of l.found.tokens.items);
  comments : AreSpansInOrder 0 l.at l.found.comments.items;
}

abbrev pub decreases-loop-at : goal.decreases-loop-at
decreases-loop-at l = length l.text - l.at
