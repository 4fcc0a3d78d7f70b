use Rattle.ada2012_parser.proofs.Readings.{any, any_some, one, pass_some}
use Rattle.ada2012_parser.proofs.parser.Parser.for_iteration.Goals as goal

pub returns-then-at_word : goal.returns-then-at_word
returns-then-at_word c =
    pass_some c.in_ok-word.ensures (any (one c.in_ok-parameter.ensures (any (pass_some c.in_ok-word-2.ensures (any c.in_ok-array.ensures)))))

pub returns : goal.returns
returns c =
    pass_some c.in_ok-word.ensures (any (one c.in_ok-parameter.ensures (any (pass_some c.in_ok-word-3.ensures (any (any_some c.in_ok-reversed.ensures
    c.in_ok-range.ensures))))))
