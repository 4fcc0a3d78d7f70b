use Rattle.std.proofs.Common.{◌∷◌, [], subst}
use Rattle.ada_tree.specs.ProgramTree.{body_item_tree, program_tree}
use Rattle.expr_soundness.specs.meaning.specs.Programs.{items_among}
use Rattle.package_code.specs.Tasks.{AreKnownTasks}
use Rattle.package_code.proofs.tasks.add_body_item.Goals as goal

pub add_item-requires-clause-known : goal.add_item-requires-clause-known
add_item-requires-clause-known c =
    subst (λ x. AreKnownTasks (program_tree c.args.accepted.now) (items_among (body_item_tree x ∷ []))) c.in-Item.is c.requires.known
