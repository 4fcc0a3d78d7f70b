use Rattle.std.proofs.Common.{◌≡◌, drop, map}
use Rattle.ada_tree.specs.ProgramTree.{body_item_tree}
use Rattle.diagnostics.specs.counterparts.Fronts.{first_of, part_of_own_object}
use Rattle.diagnostics.proofs.counterparts.fronts.part_of_body_items.Given as goal

-- what is left decides
abbrev pub invariant-loop-item : goal.invariant-loop-item
invariant-loop-item l =
    first_of (part_of_own_object l.fn.object l.fn.name l.fn.place) (map body_item_tree (drop l.item-index l.fn.items))
    ≡ first_of (part_of_own_object l.fn.object l.fn.name l.fn.place) (map body_item_tree l.fn.items)
