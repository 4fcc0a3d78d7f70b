use Rattle.std.proofs.Common.{◌≡◌, drop, map}
use Rattle.ada_tree.specs.ProgramTree.{body_item_tree, item_tree}
use Rattle.diagnostics.specs.counterparts.Fronts.{first_of}
use Rattle.diagnostics.specs.counterparts.Twice.{open_part}
use Rattle.diagnostics.proofs.counterparts.twice.open_parts.Given as goal

-- what is left decides
abbrev pub invariant-loop-item : goal.invariant-loop-item
invariant-loop-item l =
    first_of (open_part l.fn.name l.fn.place (map body_item_tree l.fn.all)) (map item_tree (drop l.item-index l.fn.items))
    ≡ first_of (open_part l.fn.name l.fn.place (map body_item_tree l.fn.all)) (map item_tree l.fn.items)
