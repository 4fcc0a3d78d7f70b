use Rattle.std.proofs.Common.{◌≡◌, drop, map}
use Rattle.std.specs.List.{list_any}
use Rattle.ada_tree.specs.ProgramTree.{body_item_tree}
use Rattle.diagnostics.specs.counterparts.Twice.{declares_at}
use Rattle.diagnostics.proofs.counterparts.twice.has_body_item.Given as goal

-- what is left decides
abbrev pub invariant-loop-item : goal.invariant-loop-item
invariant-loop-item l =
    list_any (declares_at l.fn.place) (map body_item_tree (drop l.item-index l.fn.items))
    ≡ list_any (declares_at l.fn.place) (map body_item_tree l.fn.items)
