use Rattle.std.proofs.Common.{map, take}
use Rattle.compiler.specs.ada_tree.specs.ProgramTree.{body_item_tree}
use Rattle.compiler.specs.meaning.specs.Programs.{items_among}
use Rattle.adarun.proofs.Named.{Adds}
use Rattle.adarun.proofs.naming.push_body_items.Given as goal

abbrev pub invariant-loop-item : goal.invariant-loop-item
invariant-loop-item l = Adds l.fn.names.items (items_among (map body_item_tree (take l.item-index l.items))) l.names.items
