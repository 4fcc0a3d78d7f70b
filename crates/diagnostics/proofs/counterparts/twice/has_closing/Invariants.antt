use Rattle.std.proofs.Common.{◌≡◌, drop, map}
use Rattle.std.specs.List.{list_any}
use Rattle.ada_tree.specs.ProgramTree.{body_item_tree}
use Rattle.diagnostics.specs.counterparts.Twice.{is_closing}
use Rattle.diagnostics.proofs.counterparts.twice.has_closing.Given as goal

-- what is left decides
abbrev pub invariant-loop-item : goal.invariant-loop-item
invariant-loop-item l =
    list_any (is_closing l.fn.place l.fn.object) (map body_item_tree (drop l.item-index l.fn.items))
    ≡ list_any (is_closing l.fn.place l.fn.object) (map body_item_tree l.fn.items)
