use Rattle.ada2012_tree.specs.ExpressionSpans.{association_spans}
use Rattle.ada2012_parser.proofs.Readings.{any, none, pass_some, some_ended}
use Rattle.ada2012_parser.proofs.parser.Parser.pragma_arguments.Goals as goal

pub returns : goal.returns
returns c = any (pass_some c.in_ok-mark.ensures (any (some_ended c.in_ok-all.ensures (any c.in_ok-mark-2.ensures))))

pub returns-then-not-at_mark : goal.returns-then-not-at_mark
returns-then-not-at_mark c = none association_spans c.new.ensures.items
