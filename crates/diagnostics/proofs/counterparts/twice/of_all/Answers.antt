use Rattle.std.proofs.Common.{ap₂, map, ◌∙◌}
use Rattle.ada_tree.specs.ProgramTree.{body_item_tree, item_tree}
use Rattle.diagnostics.specs.counterparts.Fronts.{or_first}
use Rattle.diagnostics.specs.counterparts.Twice.{first_open_part}
use Rattle.diagnostics.proofs.counterparts.twice.of_all.Goals as goal

pub returns : goal.returns
returns c =
    c.or_first-2.ensures
    ∙ ap₂ or_first c.within_package.ensures
    (c.or_first.ensures
    ∙ ap₂ or_first c.of_package.ensures
    (c.first_open_part.ensures
    ∙ ap₂ (λ specified items. first_open_part c.args.name.now c.args.place (map item_tree specified) (map body_item_tree items))
    c.deref.ensures.value c.deref-2.ensures.value))
