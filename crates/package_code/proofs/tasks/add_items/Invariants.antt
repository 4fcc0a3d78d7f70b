use Rattle.std.proofs.Common.{map, take}
use Rattle.ada_tree.specs.ProgramTree.{item_tree, program_tree}
use Rattle.package_code.specs.Tasks.{AddsTasks}
use Rattle.package_code.proofs.tasks.add_items.Given as goal

abbrev pub invariant-loop-item : goal.invariant-loop-item
invariant-loop-item l = AddsTasks (program_tree l.accepted) l.fn.tasks.items (map item_tree (take l.item-index l.items)) l.tasks.items
