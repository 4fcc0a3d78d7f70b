use Rattle.std.proofs.Common.{refl}
use Rattle.ada2012_parser.proofs.Readings.{any, node, pass_any_some, pass_some, some_ended}
use Rattle.ada2012_parser.proofs.parser.Parser.use_clause.Goals as goal

pub returns : goal.returns
returns c =
    node c.here-start.ensures c.since.ensures.start c.since.ensures.end_ refl (pass_some c.in_ok-word.ensures (any (pass_any_some c.in_ok-passes.ensures
    (pass_any_some c.in_ok-types.ensures (some_ended c.in_ok-names.ensures (any c.in_ok-mark.ensures))))))
