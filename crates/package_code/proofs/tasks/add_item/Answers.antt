use Rattle.std.proofs.Common.{Some, ap}
use Rattle.ada_tree.specs.ProgramTree.{item_tree}
use Rattle.package_code.proofs.tasks.add_item.Goals as goal

pub add_task-requires-clause-known : goal.add_task-requires-clause-known
add_task-requires-clause-known c = c.requires.known 0 _ (ap (λ x. Some (item_tree x)) c.in-Task.is)
