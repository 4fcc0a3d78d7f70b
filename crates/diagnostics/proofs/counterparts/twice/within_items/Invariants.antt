use Rattle.std.proofs.Common.{◌≡◌, drop, map}
use Rattle.ada_tree.specs.ProgramTree.{item_tree}
use Rattle.diagnostics.specs.counterparts.Fronts.{first_of}
use Rattle.diagnostics.specs.counterparts.Twice.{within_item}
use Rattle.diagnostics.proofs.counterparts.twice.within_items.Given as goal

-- what is left decides
abbrev pub invariant-loop-item : goal.invariant-loop-item
invariant-loop-item l =
    first_of (within_item l.fn.name l.fn.place) (map item_tree (drop l.item-index l.fn.items))
    ≡ first_of (within_item l.fn.name l.fn.place) (map item_tree l.fn.items)
