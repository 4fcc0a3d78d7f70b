use Rattle.ada2012_tree.specs.Spans.{only}
use Rattle.ada2012_tree.specs.StatementSpans.{declaration_spans}
use Rattle.ada2012_parser.proofs.Readings.{any, goes_on_some, pass_some, since, some_ended}
use Rattle.ada2012_parser.proofs.parser.Parser.named_declaration.Goals as goal

pub exceptions-requires : goal.exceptions-requires
exceptions-requires c = since c.here-start.ensures (some_ended c.in_ok-names.ensures (any c.in_ok-mark.ensures))

pub returns-then-at_word : goal.returns-then-at_word
returns-then-at_word c =
    goes_on_some c.exceptions.result (λ d. only (declaration_spans d)) _ c.here-start.ensures (some_ended c.in_ok-names.ensures (any c.in_ok-mark.ensures))
    c.exceptions.ensures

pub number-requires : goal.number-requires
number-requires c = since c.here-start.ensures (some_ended c.in_ok-names.ensures (any (pass_some c.in_ok-mark.ensures c.in_ok-constant.ensures)))

pub object-requires : goal.object-requires
object-requires c = since c.here-start.ensures (some_ended c.in_ok-names.ensures (any (pass_some c.in_ok-mark.ensures c.in_ok-constant.ensures)))

pub returns : goal.returns
returns c =
    goes_on_some c.object.result (λ d. only (declaration_spans d)) _ c.here-start.ensures (some_ended c.in_ok-names.ensures (any (pass_some
    c.in_ok-mark.ensures c.in_ok-constant.ensures))) c.object.ensures
