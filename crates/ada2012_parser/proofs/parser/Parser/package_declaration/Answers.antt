use Rattle.std.proofs.Common.{refl}
use Rattle.ada2012_parser.proofs.Readings.{add_passed, any, any_some, ended_some, node, one, pass_any_some, pass_some}
use Rattle.ada2012_parser.proofs.parser.Parser.package_declaration.Goals as goal

pub returns : goal.returns
returns c =
    node refl c.since.ensures.start c.since.ensures.end_ refl (add_passed c.requires (one c.in_ok-name.ensures (any (any_some c.in_ok-aspects.ensures
    (pass_some c.in_ok-word.ensures (any (any_some c.in_ok-visible.ensures (ended_some c.in_ok-hidden.ensures (pass_some c.in_ok-word-2.ensures (any
    (pass_any_some c.in_ok-end_name.ensures c.in_ok-mark.ensures)))))))))))
