use Rattle.std.proofs.Common.{map, take}
use Rattle.ada_tree.specs.ProgramTree.{item_tree}
use Rattle.variable_places.proofs.Walked.{Adds}
use Rattle.variable_places.proofs.program.push_items.Given as goal

abbrev pub invariant-loop-item : goal.invariant-loop-item
invariant-loop-item l = Adds l.fn.names l.fn.scopes.items (map item_tree (take l.item-index l.items)) l.scopes.items
