use Rattle.std.proofs.Common.{map, take}
use Rattle.ada_tree.specs.ProgramTree.{body_item_tree}
use Rattle.meaning.specs.Programs.{items_among}
use Rattle.variable_places.proofs.Walked.{Lists}
use Rattle.variable_places.proofs.program.list_body_items.Given as goal

abbrev pub invariant-loop-item : goal.invariant-loop-item
invariant-loop-item l = Lists l.fn.names l.fn.listing (items_among (map body_item_tree (take l.item-index l.items))) l.listing
