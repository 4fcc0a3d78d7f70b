use Rattle.std.proofs.Common.{◌≡◌, drop, map}
use Rattle.ada_tree.specs.ProgramTree.{body_item_tree}
use Rattle.diagnostics.specs.hints.EndNames.{body_item_end}
use Rattle.diagnostics.specs.hints.Found.{first_found}
use Rattle.diagnostics.proofs.hints.end_names.body_item_end_among.Given as goal

-- what is left decides
abbrev pub invariant-loop-item : goal.invariant-loop-item
invariant-loop-item l = first_found (body_item_end l.fn.place) (map body_item_tree (drop l.item-index l.fn.items)) ≡ first_found (body_item_end l.fn.place) (map body_item_tree l.fn.items)
