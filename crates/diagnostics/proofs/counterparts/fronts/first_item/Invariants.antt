use Rattle.std.proofs.Common.{◌≡◌, drop, map}
use Rattle.ada_tree.specs.ProgramTree.{item_tree}
use Rattle.diagnostics.specs.counterparts.Fronts.{first_item}
use Rattle.diagnostics.proofs.counterparts.fronts.first_item.Given as goal

-- what is left decides
abbrev pub invariant-loop-item : goal.invariant-loop-item
invariant-loop-item l =
    first_item l.fn.name l.fn.place (map item_tree (drop l.item-index l.fn.items))
    ≡ first_item l.fn.name l.fn.place (map item_tree l.fn.items)
