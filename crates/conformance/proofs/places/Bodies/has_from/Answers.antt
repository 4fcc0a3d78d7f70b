use Rattle.std.proofs.Common.{ap, ◌∙◌, map, drop}
use Rattle.std.specs.List.{list_any}
use Rattle.std.proofs.lemmas.List.{drop-map}
use Rattle.ada_tree.specs.ProgramTree.{body_item_tree}
use Rattle.conformance.specs.Tables.{has_key, is_from}
use Rattle.conformance.proofs.Tabled.{from_last}
use Rattle.conformance.proofs.places.Bodies.has_from.Goals as goal

pub returns : goal.returns
returns c =
    let items = c.self.inside.items.now in
    c.is_from.ensures
    ∙ ap (is_from c.args.start) (c.place_of.ensures ∙ c.self.invariant c.args.key)
    ∙ from_last (has_key c.args.key) c.args.start (map body_item_tree items)
    ∙ ap (list_any (has_key c.args.key)) (drop-map body_item_tree c.args.start items)
    ∙ ap (λ l. list_any (has_key c.args.key) (map body_item_tree (drop c.args.start l))) c.self.view_is
