use Rattle.std.proofs.Common.{◌∙◌, map, drop}
use Rattle.ada_tree.specs.ProgramTree.{body_item_tree}
use Rattle.conformance.specs.MatchingRules.{is_body_of}
use Rattle.conformance.specs.Tables.{has_key}
use Rattle.conformance.proofs.Tabled.{found, same_any}
use Rattle.conformance.proofs.places.Bodies.has_body.Goals as goal

pub returns : goal.returns
returns c =
    let k = c.of_body.result in
    c.has_from.ensures
    ∙ same_any (has_key k) (is_body_of c.args.kind c.args.name.now) (found k c.args.kind c.args.name.now c.of_body.ensures) (map body_item_tree (drop c.args.start c.args.self.now))
