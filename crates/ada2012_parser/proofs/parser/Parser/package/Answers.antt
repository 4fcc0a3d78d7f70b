use Rattle.ada2012_tree.specs.Spans.{only}
use Rattle.ada2012_tree.specs.ProgramSpans.{unit_item_spans}
use Rattle.ada2012_parser.proofs.Readings.{goes_on_some, since}
use Rattle.ada2012_parser.proofs.parser.Parser.package.Goals as goal

pub package_body-requires : goal.package_body-requires
package_body-requires c = since c.here-start.ensures c.in_ok-word.ensures

pub returns-then-at_word : goal.returns-then-at_word
returns-then-at_word c =
    goes_on_some c.package_body.result (λ item. only (unit_item_spans item)) _ c.here-start.ensures c.in_ok-word.ensures c.package_body.ensures

pub package_declaration-requires : goal.package_declaration-requires
package_declaration-requires c = since c.here-start.ensures c.in_ok-word.ensures

pub returns : goal.returns
returns c =
    goes_on_some c.package_declaration.result (λ item. only (unit_item_spans item)) _ c.here-start.ensures c.in_ok-word.ensures c.package_declaration.ensures
