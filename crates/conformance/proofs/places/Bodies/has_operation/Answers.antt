use Rattle.std.proofs.Common.{◌∙◌, map, drop}
use Rattle.ada_tree.specs.ProgramTree.{body_item_tree}
use Rattle.conformance.specs.MatchingRules.{has_operation}
use Rattle.conformance.specs.Tables.{has_key}
use Rattle.conformance.proofs.Tabled.{operation_found, same_any}
use Rattle.conformance.proofs.places.Bodies.has_operation.Goals as goal

pub returns : goal.returns
returns c =
    let k = c.of_operation.result in
    let object = c.args.object.now in
    let name = c.args.name.now in
    c.has_from.ensures
    ∙ same_any (has_key k) (has_operation object name) (operation_found k object name c.of_operation.ensures)
    (map body_item_tree (drop c.args.start c.args.self.now))
