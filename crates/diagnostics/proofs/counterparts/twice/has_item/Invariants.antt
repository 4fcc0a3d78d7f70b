use Rattle.std.proofs.Common.{◌≡◌, drop, map}
use Rattle.std.specs.List.{list_any}
use Rattle.ada_tree.specs.ProgramTree.{item_tree}
use Rattle.diagnostics.specs.counterparts.Fronts.{declared_name, is_at}
use Rattle.diagnostics.proofs.counterparts.twice.has_item.Given as goal

-- what is left decides
abbrev pub invariant-loop-item : goal.invariant-loop-item
invariant-loop-item l =
    list_any (λ i. is_at l.fn.place (declared_name i)) (map item_tree (drop l.item-index l.fn.items))
    ≡ list_any (λ i. is_at l.fn.place (declared_name i)) (map item_tree l.fn.items)
