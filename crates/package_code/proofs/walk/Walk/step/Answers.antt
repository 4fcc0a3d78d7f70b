use Rattle.std.proofs.Common.{Some, ap, map, sym, ◌∙◌}
use Rattle.ada_tree.specs.ProgramTree.{ProtectedBody, body_item_tree, protected_item_tree}
use Rattle.package_code.proofs.walk.Walk.step.Goals as goal

pub declaration-requires-clause-at : goal.declaration-requires-clause-at
declaration-requires-clause-at c = c.requires.at ∙ ap (λ x. Some (body_item_tree x)) c.in-Item.is

pub subprogram-requires-clause-at : goal.subprogram-requires-clause-at
subprogram-requires-clause-at c = c.requires.at ∙ ap (λ x. Some (body_item_tree x)) c.in-Subprogram.is

pub task-requires-clause-at : goal.task-requires-clause-at
task-requires-clause-at c = c.requires.at ∙ ap (λ x. Some (body_item_tree x)) c.in-Task.is

pub object-requires-clause-at : goal.object-requires-clause-at
object-requires-clause-at c = (
  c.in-Protected.field-2,
  c.requires.at
      ∙ ap (λ x. Some (body_item_tree x)) c.in-Protected.is
      ∙ ap (λ l. Some (ProtectedBody c.in-Protected.name (map protected_item_tree l) c.in-Protected.field-2)) (sym c.deref.ensures.value),
)
