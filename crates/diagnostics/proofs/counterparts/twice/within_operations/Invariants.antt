use Rattle.std.proofs.Common.{◌≡◌, drop, map}
use Rattle.ada_tree.specs.ProgramTree.{protected_item_tree}
use Rattle.diagnostics.specs.counterparts.Fronts.{first_of}
use Rattle.diagnostics.specs.counterparts.Twice.{within_operation}
use Rattle.diagnostics.proofs.counterparts.twice.within_operations.Given as goal

-- what is left decides
abbrev pub invariant-loop-item : goal.invariant-loop-item
invariant-loop-item l =
    first_of (within_operation l.fn.name l.fn.place) (map protected_item_tree (drop l.item-index l.fn.items))
    ≡ first_of (within_operation l.fn.name l.fn.place) (map protected_item_tree l.fn.items)
