use Rattle.std.proofs.Common.{map, take}
use Rattle.ada_tree.specs.ProgramTree.{item_tree}
use Rattle.variable_places.proofs.Walked.{Lists}
use Rattle.variable_places.proofs.program.list_items.Given as goal

abbrev pub invariant-loop-item : goal.invariant-loop-item
invariant-loop-item l = Lists l.fn.names l.fn.listing (map item_tree (take l.item-index l.items)) l.listing
